use Rattle.std.proofs.Common.{◌≡◌, ◌<◌, rules, ap, ◌∙◌, ◌∷◌, is_ok, vec_len, vec_capacity, arith, length, true}
use Rattle.std.proofs.lemmas.Fn.{filter_same}
use Rattle.trade_line.specs.Line.{without}
use Rattle.trade_line.proofs.askers.Lines.{length_without_lt}
use Rattle.trade_line.proofs.line.VecLineLine.bring_to_front.Goals as goal

pub returns : goal.returns
returns c =
    let kept : c.retain.new.self.items ≡ without c.args.person c.args.self.now =
    filter_same _ _ _ (λ x b f' k. search rules) _ _ c.retain.ensures.filtered
    ∙ ap (without c.args.person) c.self.view_is in
    let shorter : length (without c.args.person c.args.self.now) < length c.args.self.now =
    length_without_lt c.args.person c.args.self.now c.requires in
    let room : vec_len c.retain.new.self < vec_capacity c.retain.new.self =
    omega (
      arith,
      shorter,
      ap length kept,
      ap length c.self.view_is,
      c.retain.new.self.ok.0,
      c.self.inside.order.ok.0,
      c.self.inside.order.ok.1,
      c.retain.ensures.capacity,
    ) in
    let ok : is_ok c.insert.result ≡ true = c.insert.ensures.succeeds room in
    rw (c.insert.ensures.items, ok) (ap (λ z. c.args.person ∷ z) kept)
