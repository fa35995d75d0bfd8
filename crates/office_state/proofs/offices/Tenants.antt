-- Tenants, collected in a map.
use Rattle.std.proofs.Common.{◌≡◌, true, false, Option, Some, None, cond, ap, ◌∙◌, sym, inl, inr}
use Rattle.std.specs.Option.{option_or}
use Rattle.std.specs.Cmp.Lexicographic.{nat_list_eq_equiv, texts_ties}
use Rattle.std.specs.FinMap as map
use Rattle.std.specs.FinMap.{get-empty}
use Rattle.room_types.specs.Texts.{Text, TextMap, text_cmp, text_eq}
use Rattle.room_types.proofs.maps.TextMaps.{text_cases, get-put_same, get-put_other}
use Rattle.room_types.proofs.options.Options.{none_if_not_some}

pub tenants-none : (room : Text) (o : Option Text)
    → option_or (map.get (map.empty {X = Text} {R = text_cmp}) room) o ≡ o
tenants-none room o = ap (λ p. option_or p o) (get-empty text_cmp room)

-- a home without a tenant gets one
pub tenants-put : (m : TextMap Text) (home id room : Text) (o : Option Text)
    → map.contains_key m home ≡ false
    → option_or (map.get (map.insert m home id) room) o
    ≡ option_or (map.get m room) (cond (text_eq home room) (Some id) o)
tenants-put m home id room o none =
    elim (text_cases room home) as
    (λ _. option_or (map.get (map.insert m home id) room) o
    ≡ option_or (map.get m room) (cond (text_eq home room) (Some id) o)) [
      | inl same ↦
          let new : map.get (map.insert m home id) room ≡ Some id =
          ap (λ r. map.get (map.insert m home id) r) same ∙ get-put_same m home id in
          let old : map.get m room ≡ None = ap (λ r. map.get m r) same
          ∙ none_if_not_some (map.get m home) none in
          let here : text_eq home room ≡ true = ap (λ r. text_eq home r) same
          ∙ nat_list_eq_equiv.refl home in
          ap (λ p. option_or p o) new
          ∙ sym (ap (λ p. option_or p (cond (text_eq home room) (Some id) o)) old
          ∙ ap (λ b. cond b (Some id) o) here)
      | inr other ↦
          let there : text_eq home room ≡ false = nat_list_eq_equiv.symm home room
          ∙ texts_ties room home ∙ other in
          ap (λ p. option_or p o) (get-put_other m home id room other)
          ∙ ap (λ b. option_or (map.get m room) (cond b (Some id) o)) (sym there)
    ]
