use Rattle.rm_desk.proofs.Names.{joined, is_alone}
use Rattle.rm_desk.proofs.grants.Grants.grant.Given as goal

-- what is passed is the list so far, and then the parameters in their order
abbrev pub ghost-of : goal.ghost-of
ghost-of a = joined a._from.now.0.now (record { txn = a._from.now.1.0; rid = a._from.now.2; alone = is_alone a._from.now.3 })
