use Rattle.std.proofs.Common.{◌∷◌, sym, subst, rules}
use Rattle.rm_history.specs.Acts.{act_of, acts_of}
use Rattle.rm_history.specs.Needs.{Fits}
use Rattle.rm_history.specs.Rules.{MayCome}
use Rattle.rm_history.specs.Legal.{IsEntered, EntriesFollow}
use Rattle.rm_audit.proofs.Firsts.{coming_first, room_first, entering_first, entry_behind_first}
use Rattle.rm_audit.proofs.Judging.{above_is, has_fits, is_legal}
use Rattle.rm_audit.proofs.audits.judge.Goals as goal

pub returns-in-Some : goal.returns-in-Some
returns-in-Some c =
    coming_first c.args.format (act_of c.args.last.now) (acts_of c.args.before.now) c.in-Some.why
    (above_is c.args.before.now c.args.last.now (search rules)) (rw c.in-Some.is at (c.in_ok-why.ensures c.args.format))

pub returns-then-not-branch : goal.returns-then-not-branch
returns-then-not-branch c =
    let may : MayCome (acts_of c.args.before.now) (act_of c.args.last.now) = rw c.in_default.is at (c.in_ok-why.ensures c.args.format) in
    let none : Fits (acts_of c.args.log.now) → ⊥ = search (rules, c.in_ok-has_room.ensures (acts_of c.args.before.now) c.requires.after) in
    room_first c.args.format (act_of c.args.last.now) (acts_of c.args.before.now) (above_is c.args.before.now c.args.last.now (search rules)) may
    (λ fits. none (subst Fits (sym c.requires.after) fits))

pub returns-in-Some-2 : goal.returns-in-Some-2
returns-in-Some-2 c =
    let may : MayCome (acts_of c.args.before.now) (act_of c.args.last.now) = rw c.in_default.is at (c.in_ok-why.ensures c.args.format) in
    let fits : Fits (act_of c.args.last.now ∷ acts_of c.args.before.now) =
    has_fits c.args.format c.args.before.now c.args.last.now (acts_of c.args.log.now) c.requires.after c.requires.legal may
    (search (rules, c.in_ok-has_room.ensures (acts_of c.args.before.now) c.requires.after)) in
    entering_first c.args.format (act_of c.args.last.now) (acts_of c.args.before.now) c.in-Some-2.why
    (above_is c.args.before.now c.args.last.now (search rules)) may fits (rw c.in-Some-2.is at (c.in_ok-why-2.ensures may))

pub returns-then-not-branch-2 : goal.returns-then-not-branch-2
returns-then-not-branch-2 c =
    let may : MayCome (acts_of c.args.before.now) (act_of c.args.last.now) = rw c.in_default.is at (c.in_ok-why.ensures c.args.format) in
    let fits : Fits (act_of c.args.last.now ∷ acts_of c.args.before.now) =
    has_fits c.args.format c.args.before.now c.args.last.now (acts_of c.args.log.now) c.requires.after c.requires.legal may
    (search (rules, c.in_ok-has_room.ensures (acts_of c.args.before.now) c.requires.after)) in
    let entered : IsEntered c.args.format (acts_of c.args.before.now) (act_of c.args.last.now) = rw c.in_default-2.is at (c.in_ok-why-2.ensures may) in
    let not : EntriesFollow c.args.format (acts_of c.args.log.now) → ⊥ = search (rules, c.in_ok-has_followed.ensures c.requires.after) in
    entry_behind_first c.args.format (act_of c.args.last.now) (acts_of c.args.before.now)
    (above_is c.args.before.now c.args.last.now (search rules)) may fits entered
    (λ follow. not (subst (EntriesFollow c.args.format) (sym c.requires.after) follow))

pub returns : goal.returns
returns c =
    let may : MayCome (acts_of c.args.before.now) (act_of c.args.last.now) = rw c.in_default.is at (c.in_ok-why.ensures c.args.format) in
    let fits : Fits (act_of c.args.last.now ∷ acts_of c.args.before.now) =
    has_fits c.args.format c.args.before.now c.args.last.now (acts_of c.args.log.now) c.requires.after c.requires.legal may
    (search (rules, c.in_ok-has_room.ensures (acts_of c.args.before.now) c.requires.after)) in
    is_legal c.args.format c.args.before.now c.args.last.now (acts_of c.args.log.now) c.requires.after c.requires.legal (search rules) may fits
    (rw c.in_default-2.is at (c.in_ok-why-2.ensures may)) (search (rules, c.in_ok-has_followed.ensures c.requires.after))
