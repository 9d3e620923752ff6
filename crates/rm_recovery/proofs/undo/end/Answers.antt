use Rattle.std.proofs.Common.{subst, rules}
use Rattle.rm_pool.specs.Stores.{StoreValue}
use Rattle.rm_recovery.proofs.Stages.{ended_loses, ended_step, ends_some}
use Rattle.rm_recovery.proofs.undo.end.Goals as goal

pub write-requires-clause-is_record : goal.write-requires-clause-is_record
write-requires-clause-is_record g c = (ends_some c.args.store.now c.args.store.now c.args.txn.0 c.requires.next, search rules)

pub returns-in-Ok-clause-step : goal.returns-in-Ok-clause-step
returns-in-Ok-clause-step g c =
    ended_step c.args.store.now c.write.new.self c.args.txn.0 c.requires.next c.in-Ok.ensures.ok _ _
    (λ models. subst (λ (s : StoreValue _). g.V.Volume.models_content s.journal.volume) c.in-Ok.ensures.ok models) (c.end-at.ensures.next c.requires.known)

pub returns-in-Ok-clause-ended : goal.returns-in-Ok-clause-ended
returns-in-Ok-clause-ended g c = ended_loses c.args.store.now c.write.new.self c.args.txn.0 c.requires.next c.in-Ok.ensures.ok
