use Rattle.std.proofs.Common.{rules, ◌≡◌, ◌-◌, not, length, arith, ap, ◌∙◌, refl, inl}
use Rattle.office_lines.specs.render.Texts.{text_of}
use Rattle.room_types.proofs.watched_bytes.Streams.{Puts-nil}
use Rattle.office_lines.proofs.session.Session.answer_line.Goals as goal

pub returns-in-Ok-send-clause-answered : goal.returns-in-Ok-send-clause-answered
returns-in-Ok-send-clause-answered g c =
    let text : c.as_bytes.result.now ≡ text_of c.handle_line-response.result =
    c.as_bytes.ensures.value ∙ c.deref-in-Ok.ensures.value ∙ c.in-Ok.ensures.text in
    record {
      response = c.handle_line-response.result;
      step = rw c.deref.ensures.value at c.handle_line-response.ensures.step;
      partial_line = c.clear.ensures.items;
      written = rw text at c.in-Ok-send.ensures.sent;
      flushes = c.send.ensures.flushes;
      failed = c.in-Ok-send.ensures.kept;
      sent = omega (arith, c.len.ensures, ap length c.in-Ok.ensures.text);
      status = search rules;
    }

pub returns-in-Ok-clause-broken : goal.returns-in-Ok-clause-broken
returns-in-Ok-clause-broken g c =
    let step = rw c.deref.ensures.value at c.handle_line-response.ensures.step in
    let text : c.as_bytes.result.now ≡ text_of c.handle_line-response.result =
    c.as_bytes.ensures.value ∙ c.deref-in-Ok.ensures.value ∙ c.in-Ok.ensures.text in
    let short = c.in-Err-send.ensures.short in
    record {
      response = c.handle_line-response.result;
      sent = c.in-Err-send.sent;
      unsent = length c.as_bytes.result.now - c.in-Err-send.sent;
      step = step;
      written = rw text at c.in-Err-send.ensures.prefix;
      unflushed = c.send.ensures.flushes;
      all = omega (arith, short, ap length text);
      suits = refl;
    }

pub returns-clause-broken : goal.returns-clause-broken
returns-clause-broken g c = record {
  response = c.handle_line-response.result;
  sent = 0;
  unsent = length (text_of c.handle_line-response.result);
  step = rw c.deref.ensures.value at c.handle_line-response.ensures.step;
  written = Puts-nil _;
  unflushed = refl;
  all = omega arith;
  suits = (omega arith, inl (refl, c.in-Err.ensures.memory, ap not c.in-Err.ensures.made));
}
