use Rattle.std.proofs.Common.{◌<◌, ◌∙◌, ap, arith, Some, refl}
use Rattle.trade_line.specs.Rank.{rank}
use Rattle.trade_line.specs.Inner.State.{state_of}
use Rattle.trade_line.proofs.turns.States.{front_known, wish_found, marked_asks, marked_onward, floored_onward}
use Rattle.trade_line.proofs.turns.Asking.{ask_finds}
use Rattle.trade_line.proofs.turns.Cursors.{granted_parts, others_wait, front_in, tail_gone}
use Rattle.trade_line.proofs.counts.ReadSums.{turn_found, turn_found_none}
use Rattle.trade_line.proofs.trade.turn.Goals as goal

pub mark-requires : goal.mark-requires
mark-requires g c =
    let h : c.args.person < c.args.problem.now.people =
    front_known c.args.problem.now c.args.person _ c.requires.consistent c.requires.front in
    omega (arith, c.args.progress.now.asked.ok.0, c.requires.consistent.fits.asked_len)

pub list-requires : goal.list-requires
list-requires g c = front_known c.args.problem.now c.args.person _ c.requires.consistent c.requires.front

pub index-requires : goal.index-requires
index-requires g c =
    let h : c.args.person < c.args.problem.now.people =
    front_known c.args.problem.now c.args.person _ c.requires.consistent c.requires.front in
    omega (arith, c.args.cursors.now.ok.0, c.requires.cursors.cursors_len)

pub serve-requires-clause-asks : goal.serve-requires-clause-asks
serve-requires-clause-asks g c =
    marked_asks c.args.problem.now c.args.person _ _ c.requires.consistent c.requires.front refl c.mark.ensures.asked
    c.mark.ensures.remaining c.mark.ensures.given

pub serve-requires-clause-wish : goal.serve-requires-clause-wish
serve-requires-clause-wish g c =
    let f = ask_finds c.args.problem.now (state_of (g.L.Line.people c.args.line.now) c.args.progress.now)
    (state_of (g.L.Line.people c.args.line.now) c.mark.new.self) c.args.person c.args.cursors.now.items
    c.deref.result.now c.list.result.now c.index.result.now _ _ _
    c.requires.consistent c.requires.front refl c.mark.ensures.asked c.mark.ensures.remaining c.mark.ensures.given
    c.requires.cursors
    (front_known c.args.problem.now c.args.person _ c.requires.consistent c.requires.front)
    c.deref.ensures.value c.list.ensures.list c.index.ensures c.read_on-found.ensures.room c.read_on-found.ensures.place
    c.read_on-found.ensures.looks in
    wish_found c.args.problem.now _ c.args.person (Some c.in-Some.room) (f.found ∙ c.in-Some.is)

pub returns-in-Some : goal.returns-in-Some
returns-in-Some g c =
    let known = front_known c.args.problem.now c.args.person _ c.requires.consistent c.requires.front in
    let asks =
    marked_asks c.args.problem.now c.args.person (state_of (g.L.Line.people c.args.line.now) c.args.progress.now)
    (state_of (g.L.Line.people c.args.line.now) c.mark.new.self) c.requires.consistent c.requires.front refl
    c.mark.ensures.asked c.mark.ensures.remaining c.mark.ensures.given in
    let f = ask_finds c.args.problem.now (state_of (g.L.Line.people c.args.line.now) c.args.progress.now)
    (state_of (g.L.Line.people c.args.line.now) c.mark.new.self) c.args.person c.args.cursors.now.items
    c.deref.result.now c.list.result.now c.index.result.now _ _ _
    c.requires.consistent c.requires.front refl c.mark.ensures.asked c.mark.ensures.remaining c.mark.ensures.given
    c.requires.cursors known
    c.deref.ensures.value c.list.ensures.list c.index.ensures c.read_on-found.ensures.room c.read_on-found.ensures.place
    c.read_on-found.ensures.looks in
    record {
      onward = marked_onward c.args.problem.now c.args.person _ _ _ c.requires.consistent c.requires.front refl
          c.mark.ensures.asked c.mark.ensures.remaining c.mark.ensures.given c.serve.ensures.onward;
      reads = turn_found c.args.problem.now _ _ c.args.person c.read_on-found.result.place f.passed _ _ _ known
          c.requires.cursors refl f.place_is (f.some c.in-Some.room c.in-Some.is).1
          (front_in c.args.problem.now c.args.person _ asks) c.serve.ensures.keeps.inside
          (c.serve.ensures.keeps.left _ f.cursors (f.some c.in-Some.room c.in-Some.is).0)
          (c.serve.ensures.keeps.cursors _ f.cursors (f.some c.in-Some.room c.in-Some.is).0);
      few = c.read_on-found.ensures.few;
    }

pub returns-in-None : goal.returns-in-None
returns-in-None g c =
    let known = front_known c.args.problem.now c.args.person _ c.requires.consistent c.requires.front in
    let asks =
    marked_asks c.args.problem.now c.args.person (state_of (g.L.Line.people c.args.line.now) c.args.progress.now)
    (state_of (g.L.Line.people c.args.line.now) c.mark.new.self) c.requires.consistent c.requires.front refl
    c.mark.ensures.asked c.mark.ensures.remaining c.mark.ensures.given in
    let f = ask_finds c.args.problem.now (state_of (g.L.Line.people c.args.line.now) c.args.progress.now)
    (state_of (g.L.Line.people c.args.line.now) c.mark.new.self) c.args.person c.args.cursors.now.items
    c.deref.result.now c.list.result.now c.index.result.now _ _ _
    c.requires.consistent c.requires.front refl c.mark.ensures.asked c.mark.ensures.remaining c.mark.ensures.given
    c.requires.cursors known
    c.deref.ensures.value c.list.ensures.list c.index.ensures c.read_on-found.ensures.room c.read_on-found.ensures.place
    c.read_on-found.ensures.looks in
    record {
      onward = marked_onward c.args.problem.now c.args.person _ _ _ c.requires.consistent c.requires.front refl
          c.mark.ensures.asked c.mark.ensures.remaining c.mark.ensures.given
          (floored_onward c.args.problem.now c.args.person _ _ _ asks (f.found ∙ c.in-None.is) c.home_of.ensures.home
          c.drop_front.ensures c.grant.ensures.asked c.grant.ensures.remaining c.grant.ensures.given);
      reads = turn_found_none c.args.problem.now _ _ c.args.person c.read_on-found.result.place f.passed _ _ _ known
          c.requires.cursors refl f.place_is (f.none c.in-None.is).1 (f.none c.in-None.is).0
          (front_in c.args.problem.now c.args.person _ asks)
          (tail_gone c.args.problem.now c.args.person _
          (state_of (g.L.Line.people c.drop_front.new.self) c.grant.new.self) asks c.drop_front.ensures)
          (others_wait c.args.problem.now c.args.person _
          (state_of (g.L.Line.people c.drop_front.new.self) c.grant.new.self) asks c.drop_front.ensures)
          (granted_parts c.args.problem.now c.args.person _ _
          (state_of (g.L.Line.people c.drop_front.new.self) c.grant.new.self) asks c.drop_front.ensures
          c.grant.ensures.asked c.grant.ensures.remaining c.grant.ensures.given
          _ f.cursors (ap (rank c.args.problem.now c.args.person) c.home_of.ensures.home ∙ f.ends c.in-None.is));
      few = c.read_on-found.ensures.few;
    }
