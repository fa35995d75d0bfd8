-- What the statements mean under the schema of an office.
use Rattle.std.proofs.Common.{◌≡◌, List, [], ◌∷◌, refl, ℕ, pos}
use Rattle.sqlite.specs.Listing.{understood}
use Rattle.sqlite.proofs.Callers.{command_of, IsPlain}
use Rattle.sqlite_tied.specs.Compute.{everything}
use Rattle.sqlite_sql.specs.Term.{lit, col}
use Rattle.sqlite_value.specs.declared.value.Value.TheVariants.{Null, Int}
use Rattle.sqlite_schema.specs.declared.command.Source.TheVariants.{Values}
use Rattle.sqlite_schema.specs.declared.command.Command.{Command}
use Rattle.sqlite_schema.specs.declared.command.Command.TheVariants.{Insert, Update, Delete}
use Rattle.office_schema.specs.tables.Schema.{office_schema}
use Rattle.office_schema.specs.tables.Inner.Texts as text
use Rattle.office_schema.specs.tables.Queries.{over, alone}
use Rattle.office_schema.specs.tables.Inner.Texts.{by_parameter}

-- The text is this command, and nothing more.
pub record Means (text : List ℕ) (command : Command) : Type 0 where
  pub is : command_of (understood office_schema text) ≡ command
  pub plain : IsPlain (understood office_schema text)

pub add_room_is : Means text.add_room_text (Insert 0 (Values (lit Null ∷ col 0 0 ∷ col 0 1 ∷ []) 3))
unfolding understood everything
add_room_is = record { is = refl; plain = (refl, refl) }

pub set_shut_is : Means text.set_shut_text
    (Update 0 (alone (over 0 (by_parameter 1 0 ∷ []) (col 1 0 ∷ col 1 0 ∷ col 1 1 ∷ col 0 1 ∷ []) [])))
unfolding understood everything
set_shut_is = record { is = refl; plain = (refl, refl) }

pub add_person_is : Means text.add_person_text
    (Insert 1 (Values (lit Null ∷ col 0 0 ∷ col 0 1 ∷ col 0 2 ∷ col 0 3 ∷ lit (Int (pos 0)) ∷ []) 6))
unfolding understood everything
add_person_is = record { is = refl; plain = (refl, refl) }

pub drop_person_is : Means text.drop_person_text (Delete 1 (alone (over 2 (by_parameter 1 0 ∷ []) (col 1 0 ∷ []) [])))
unfolding understood everything
drop_person_is = record { is = refl; plain = (refl, refl) }

pub set_home_is : Means text.set_home_text
    (Update 1
    (alone (over 2 (by_parameter 1 0 ∷ [])
    (col 1 0 ∷ col 1 0 ∷ col 1 1 ∷ col 1 2 ∷ col 1 3 ∷ col 0 1 ∷ col 1 5 ∷ []) [])))
unfolding understood everything
set_home_is = record { is = refl; plain = (refl, refl) }

pub set_name_and_key_is : Means text.set_name_and_key_text
    (Update 1
    (alone (over 2 (by_parameter 1 0 ∷ [])
    (col 1 0 ∷ col 1 0 ∷ col 1 1 ∷ col 0 1 ∷ col 0 2 ∷ col 1 4 ∷ col 1 5 ∷ []) [])))
unfolding understood everything
set_name_and_key_is = record { is = refl; plain = (refl, refl) }

pub set_withdrawn_is : Means text.set_withdrawn_text
    (Update 1
    (alone (over 2 (by_parameter 1 0 ∷ [])
    (col 1 0 ∷ col 1 0 ∷ col 1 1 ∷ col 1 2 ∷ col 1 3 ∷ col 1 4 ∷ lit (Int (pos 1)) ∷ []) [])))
unfolding understood everything
set_withdrawn_is = record { is = refl; plain = (refl, refl) }

pub clear_withdrawn_is : Means text.clear_withdrawn_text
    (Update 1
    (alone (over 2 [] (col 1 0 ∷ col 1 0 ∷ col 1 1 ∷ col 1 2 ∷ col 1 3 ∷ col 1 4 ∷ lit (Int (pos 0)) ∷ []) [])))
unfolding understood everything
clear_withdrawn_is = record { is = refl; plain = (refl, refl) }

pub add_round_is : Means text.add_round_text
    (Insert 2 (Values (lit (Int (pos 1)) ∷ lit Null ∷ lit (Int (pos 3)) ∷ col 0 0 ∷ col 0 1 ∷ []) 5))
unfolding understood everything
add_round_is = record { is = refl; plain = (refl, refl) }

pub set_round_is : Means text.set_round_text
    (Update 2 (alone (over 6 [] (col 1 0 ∷ col 1 0 ∷ lit Null ∷ col 1 2 ∷ col 0 0 ∷ col 0 1 ∷ []) [])))
unfolding understood everything
set_round_is = record { is = refl; plain = (refl, refl) }

pub set_version_is : Means text.set_version_text
    (Update 2 (alone (over 6 [] (col 1 0 ∷ col 1 0 ∷ lit Null ∷ lit (Int (pos 3)) ∷ col 1 3 ∷ col 1 4 ∷ []) [])))
unfolding understood everything
set_version_is = record { is = refl; plain = (refl, refl) }

pub add_grade_is : Means text.add_grade_text (Insert 5 (Values (lit Null ∷ col 0 0 ∷ col 0 1 ∷ []) 3))
unfolding understood everything
add_grade_is = record { is = refl; plain = (refl, refl) }

pub drop_grade_is : Means text.drop_grade_text (Delete 5 (alone (over 11 (by_parameter 1 0 ∷ []) (col 1 0 ∷ []) [])))
unfolding understood everything
drop_grade_is = record { is = refl; plain = (refl, refl) }

pub add_going_is : Means text.add_going_text (Insert 9 (Values (lit Null ∷ col 0 0 ∷ []) 2))
unfolding understood everything
add_going_is = record { is = refl; plain = (refl, refl) }

pub add_choice_is : Means text.add_choice_text (Insert 8 (Values (lit Null ∷ col 0 0 ∷ col 0 1 ∷ col 0 2 ∷ []) 4))
unfolding understood everything
add_choice_is = record { is = refl; plain = (refl, refl) }

pub drop_choices_is : Means text.drop_choices_text
    (Delete 8 (alone (over 18 (by_parameter 1 0 ∷ []) (col 1 0 ∷ []) [])))
unfolding understood everything
drop_choices_is = record { is = refl; plain = (refl, refl) }

pub add_word_is : Means text.add_word_text (Insert 6 (Values (lit Null ∷ col 0 0 ∷ col 0 1 ∷ []) 3))
unfolding understood everything
add_word_is = record { is = refl; plain = (refl, refl) }

pub add_result_is : Means text.add_result_text (Insert 7 (Values (lit Null ∷ col 0 0 ∷ col 0 1 ∷ []) 3))
unfolding understood everything
add_result_is = record { is = refl; plain = (refl, refl) }

pub add_move_is : Means text.add_move_text
    (Insert 3 (Values (lit Null ∷ col 0 0 ∷ col 0 1 ∷ col 0 2 ∷ col 0 3 ∷ col 0 4 ∷ []) 6))
unfolding understood everything
add_move_is = record { is = refl; plain = (refl, refl) }

pub add_list_is : Means text.add_list_text (Insert 4 (Values (lit Null ∷ col 0 0 ∷ col 0 1 ∷ col 0 2 ∷ col 0 3 ∷ []) 5))
unfolding understood everything
add_list_is = record { is = refl; plain = (refl, refl) }

pub set_body_is : Means text.set_body_text
    (Update 4
    (alone (over 9 (by_parameter 1 0 ∷ []) (col 1 0 ∷ col 1 0 ∷ col 1 1 ∷ col 1 2 ∷ col 0 1 ∷ col 1 4 ∷ []) [])))
unfolding understood everything
set_body_is = record { is = refl; plain = (refl, refl) }
