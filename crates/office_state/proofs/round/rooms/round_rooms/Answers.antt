use Rattle.std.proofs.Common.{◌++◌, ◌&&◌, not, map, ap, ◌∙◌, List}
use Rattle.std.specs.List.{filter}
use Rattle.office_state.specs.Round.{is_kept_back, round_rooms}
use Rattle.office_state.proofs.round.rooms.round_rooms.Goals as goal

pub loop-code-init : goal.loop-code-init
unfolding round_rooms
loop-code-init c = record {
  can = tt;
  ends = tt;
  found =
      let kept = λ (es : List _). map (λ e. e.0)
      (filter (λ e. not e.1 && not (is_kept_back c.args.office.now e.0)) es) in
      ap (λ xs. xs ++ kept c.into_iter-code-iterator.result) c.new-rooms.ensures.items
      ∙ ap kept (c.into_iter-code-iterator.ensures.into_iter_gives
      ∙ c.iter-code-items.ensures.rest);
}
