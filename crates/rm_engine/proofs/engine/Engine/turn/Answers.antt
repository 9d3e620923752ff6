use Rattle.std.proofs.Common.{◌≡◌, ℕ, ◌≤◌, ◌∙◌, inl}
use Rattle.std.proofs.lemmas.Result.{err_from_is_err_and}
use Rattle.rm_types.specs.declared.areas.Area.{Area}
use Rattle.rm_types.specs.declared.areas.Area.TheVariants.{Log}
use Rattle.rm_types.specs.declared.faults.Fault.{Fault}
use Rattle.rm_types.specs.declared.faults.Fault.TheVariants as fault
use Rattle.rm_outside.specs.Moments.{weaker}
use Rattle.rm_outside.specs.Calls.{IsFaultIn}
use Rattle.rm_outside.proofs.FaultLemmas.{Rises-before}
use Rattle.rm_engine.proofs.Turned.{at_renamed, left_by_parts}
use Rattle.rm_outside.proofs.CallLemmas.{keeps_then}
use Rattle.rm_engine.proofs.engine.Engine.turn.Goals as goal

pub returns-in_err-make_room-clause-any_moment : goal.returns-in_err-make_room-clause-any_moment
returns-in_err-make_room-clause-any_moment g c pages count rows at = weaker (c.make_room.ensures.any_moment pages count rows at) (λ d holds. inl holds)

pub returns-in_err-reply-clause-any_moment : goal.returns-in_err-reply-clause-any_moment
returns-in_err-reply-clause-any_moment g c pages count rows at = weaker (c.make_room.ensures.any_moment pages count rows at) (λ d holds. inl holds)

pub returns-in_err-keep-clause-any_moment : goal.returns-in_err-keep-clause-any_moment
returns-in_err-keep-clause-any_moment g c pages count rows at =
    let room = c.make_room.ensures in
    let same : c.of-before.result.value ≡ c.args.self.now.session = c.of-before.ensures ∙ room.session in
    let now = at_renamed pages count rows c.args.self.now.session c.of-before.result.value c.make_room.new.self.log c.args.self.now.under c.make_room.new.self.under c.args.self.now.inserts c.make_room.new.self.inserts
    (g.V.Volume.may_leave c.make_room.new.volume) same room.under room.inserts (c.in_ok-make_room.ensures.at pages count rows at) in
    left_by_parts count rows c.args.self.now.session c.of-before.result.value c.args.line.now same (room.any_moment pages count rows at) (c.keep.ensures.any_moment pages count rows now)

pub returns-clause-any_moment : goal.returns-clause-any_moment
returns-clause-any_moment g c pages count rows at =
    let room = c.make_room.ensures in
    let same : c.of-before.result.value ≡ c.args.self.now.session = c.of-before.ensures ∙ room.session in
    let now = at_renamed pages count rows c.args.self.now.session c.of-before.result.value c.make_room.new.self.log c.args.self.now.under c.make_room.new.self.under c.args.self.now.inserts c.make_room.new.self.inserts
    (g.V.Volume.may_leave c.make_room.new.volume) same room.under room.inserts (c.in_ok-make_room.ensures.at pages count rows at) in
    left_by_parts count rows c.args.self.now.session c.of-before.result.value c.args.line.now same (room.any_moment pages count rows at) (c.keep.ensures.any_moment pages count rows now)

-- a fault that came after a moment came after an earlier one
fault_before : (area : Area) (a b c : Area → ℕ) (f : Fault) → ((other : Area) → a other ≤ b other) → IsFaultIn area b c f → IsFaultIn area a c f
fault_before area a b c (fault.Volume other) kept (is, rose) = (is, Rises-before _ _ _ (kept other) rose)
fault_before area a b c (fault.Damaged other at) kept in_area = in_area

pub returns-in_err-keep-clause-cause : goal.returns-in_err-keep-clause-cause
returns-in_err-keep-clause-cause g c = λ f is.
    let passed = err_from_is_err_and c.from_residual-in_err-keep.result c.from_residual-in_err-keep.ensures.1 in
    fault_before Log _ _ _ f c.make_room.ensures.writes.0.counts.faults (c.in_err-keep.ensures.cause f cc)

pub returns-in_err-keep-clause-writes : goal.returns-in_err-keep-clause-writes
returns-in_err-keep-clause-writes g c =
    let room = c.make_room.ensures.writes in let keep = c.keep.ensures.writes in (keeps_then room.0 keep.0, keep.1 ∙ room.1)

pub returns-clause-writes : goal.returns-clause-writes
returns-clause-writes g c =
    let room = c.make_room.ensures.writes in let keep = c.keep.ensures.writes in (keeps_then room.0 keep.0, keep.1 ∙ room.1)
