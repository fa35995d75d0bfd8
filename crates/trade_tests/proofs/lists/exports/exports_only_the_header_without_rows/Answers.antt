use Rattle.std.specs.List.Sorted.{IsStrictlySortedBy}
use Rattle.trade_tests.proofs.lists.exports.exports_only_the_header_without_rows.Goals as goal

pub write_moves-requires : goal.write_moves-requires
unfolding IsStrictlySortedBy
write_moves-requires g c = record { ascending = tt }

pub write_people-requires : goal.write_people-requires
unfolding IsStrictlySortedBy
write_people-requires g c = record { ascending = tt }

pub write_rooms-requires : goal.write_rooms-requires
unfolding IsStrictlySortedBy
write_rooms-requires g c = record { ascending = tt }
