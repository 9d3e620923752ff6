use Rattle.std.proofs.Common.{◌≡◌, ◌∷◌, take, Result, Ok, refl, sym, subst, rules}
use Rattle.rm_types.specs.declared.memory.NoMemory.{NoMemory}
use Rattle.rm_types.specs.declared.numbers.Lsn.{Lsn}
use Rattle.rm_history.specs.Acts.{act_of, acts_of}
use Rattle.rm_history.specs.Legal.{IsLegal}
use Rattle.rm_audit.specs.Verdicts.{conditions_of, IsFirstBroken, IsFirstIllegal}
use Rattle.rm_audit.specs.declared.verdicts.Illegal.{Illegal}
use Rattle.rm_audit.specs.declared.verdicts.Verdict.{Verdict}
use Rattle.rm_audit.specs.declared.verdicts.Verdict.TheVariants as verdict
use Rattle.rm_audit.proofs.Breaking.{first_refused}
use Rattle.rm_audit.proofs.FirstIllegal.{legal_prefix, first_illegal}
use Rattle.rm_audit.proofs.Prefixes.{acts_more}
use Rattle.rm_audit.proofs.audits.audit.Goals as goal

-- a verdict that a log is not legal
not_legal : (lsn : Lsn) (reason : Illegal) → verdict.Illegal lsn reason ≡ verdict.Legal → ⊥
not_legal lsn reason is = cc

-- the parts of a verdict
same_parts : (found : Result Verdict NoMemory) (lsn other : Lsn) (reason also : Illegal) → found ≡ Ok (verdict.Illegal lsn reason)
    → found ≡ Ok (verdict.Illegal other also) → (lsn ≡ other) × (reason ≡ also)
same_parts found lsn other reason also is and = (cc, cc)

pub judge-requires-clause-after : goal.judge-requires-clause-after
judge-requires-clause-after c = acts_more c.args.log.now c.loop-at.at c.index-log-at.result (search rules) c.index-log-at.is

pub returns-in-Some-clause-legal : goal.returns-in-Some-clause-legal
returns-in-Some-clause-legal c =
    let first : IsFirstBroken c.args.format (conditions_of (act_of c.index-log-at.result)) (acts_of (take c.loop-at.at c.args.log.now))
    (act_of c.index-log-at.result) c.in-Some.why =
    rw c.in-Some.is at c.in_ok-why.ensures in (
      λ is. absurd (not_legal _ _ is),
      λ legal. absurd (first_refused c.args.format (act_of c.index-log-at.result) (acts_of (take c.loop-at.at c.args.log.now)) c.in-Some.why first
          (legal_prefix c.args.format c.args.log.now c.loop-at.at c.index-log-at.result (search rules) c.index-log-at.is legal)),
    )

pub returns-in-Some-clause-illegal : goal.returns-in-Some-clause-illegal
returns-in-Some-clause-illegal c =
    let broken : IsFirstBroken c.args.format (conditions_of (act_of c.index-log-at.result)) (acts_of (take c.loop-at.at c.args.log.now))
    (act_of c.index-log-at.result) c.in-Some.why =
    rw c.in-Some.is at c.in_ok-why.ensures in
    let first : IsFirstIllegal c.args.format c.args.log.now c.index-log-at.result.lsn c.in-Some.why =
    first_illegal c.args.format c.args.log.now c.loop-at.at c.index-log-at.result c.in-Some.why (search rules) c.index-log-at.is c.loop-at.invariant broken in
    λ lsn reason is.
    let same = same_parts (Ok (verdict.Illegal c.index-log-at.result.lsn c.in-Some.why)) c.index-log-at.result.lsn lsn c.in-Some.why reason refl is in
    subst (IsFirstIllegal c.args.format c.args.log.now lsn) same.1
    (subst (λ (l : Lsn). IsFirstIllegal c.args.format c.args.log.now l c.in-Some.why) same.0 first)

pub loop-at-preserved : goal.loop-at-preserved
loop-at-preserved c =
    let legal : IsLegal c.args.format (act_of c.index-log-at.result ∷ acts_of (take c.loop-at.at c.args.log.now)) = rw c.in_default.is at c.in_ok-why.ensures in
    subst (IsLegal c.args.format) (sym (acts_more c.args.log.now c.loop-at.at c.index-log-at.result (search rules) c.index-log-at.is)) legal
