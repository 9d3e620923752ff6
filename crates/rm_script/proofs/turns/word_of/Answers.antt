use Rattle.std.proofs.Common.{arith}
use Rattle.rm_script.proofs.TurnLaws.{no_actor_alone, no_actor, no_turns}
use Rattle.rm_script.proofs.turns.word_of.Goals as goal

pub returns-in_err-actor-clause-none : goal.returns-in_err-actor-clause-none
returns-in_err-actor-clause-none c = rw c.from_residual.ensures
    (no_actor_alone c.args.sessions c.args.text.now c.in_default.ensures.none c.in_err-actor.ensures.none)

pub returns-in_err-actor-2-clause-none : goal.returns-in_err-actor-2-clause-none
returns-in_err-actor-2-clause-none c = rw c.from_residual-in_err-actor-2.ensures
    (no_actor c.args.sessions c.args.text.now c.in-Some.name.now c.in-Some.count.now c.requires c.in-Some.ensures.some c.in_err-actor-2.ensures.none)

pub returns-in_err-count-clause-none : goal.returns-in_err-count-clause-none
returns-in_err-count-clause-none c = rw c.from_residual-in_err-count.ensures
    (no_turns c.args.sessions c.args.text.now c.in-Some.name.now c.in-Some.count.now c.requires c.in-Some.ensures.some (λ turns some. c.in_err-count.ensures.none turns (omega arith)))
