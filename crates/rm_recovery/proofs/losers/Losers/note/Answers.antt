use Rattle.std.proofs.Common.{List, ◌∷◌, inl, inr, refl, ap}
use Rattle.rm_types.specs.declared.places.Place.{Place}
use Rattle.rm_history.specs.Pending.{all_pending}
use Rattle.rm_recovery.proofs.Tables.{met, finished}
use Rattle.rm_recovery.proofs.losers.Losers.note.Goals as goal

pub returns-in-Insert : goal.returns-in-Insert
returns-in-Insert c = λ history are.
    let by = (rw c.in-Insert.is at c.requires).0.by.0 in
    rw c.in-Insert.is (met c.change.result c.in-Insert.txn.0 history _ c.args.self.now c.change.new.self _ are c.change.ensures.pending
    (ap (λ (l : List Place). (record { number = c.in-Insert.txn.0; at = c.args.logged.now.lsn.0 }) ∷ l) are.pending_are) c.change.ensures.unfinished c.change.ensures.greatest refl refl by)

pub returns-in-Delete : goal.returns-in-Delete
returns-in-Delete c = λ history are.
    let by = (rw c.in-Delete.is at c.requires).0.by.0 in
    rw c.in-Delete.is (met c.change-in-Delete.result c.in-Delete.txn.0 history _ c.args.self.now c.change-in-Delete.new.self _ are c.change-in-Delete.ensures.pending
    (ap (λ (l : List Place). (record { number = c.in-Delete.txn.0; at = c.args.logged.now.lsn.0 }) ∷ l) are.pending_are) c.change-in-Delete.ensures.unfinished c.change-in-Delete.ensures.greatest refl refl by)

pub returns-in-Update : goal.returns-in-Update
returns-in-Update c = λ history are.
    let by = (rw c.in-Update.is at c.requires).0.by.0 in
    rw c.in-Update.is (met c.change-in-Update.result c.in-Update.txn.0 history _ c.args.self.now c.change-in-Update.new.self _ are c.change-in-Update.ensures.pending
    (ap (λ (l : List Place). (record { number = c.in-Update.txn.0; at = c.args.logged.now.lsn.0 }) ∷ l) are.pending_are) c.change-in-Update.ensures.unfinished c.change-in-Update.ensures.greatest refl refl by)

pub returns-in-Compensate : goal.returns-in-Compensate
returns-in-Compensate c = λ history are.
    let by = (rw c.in-Compensate.is at c.requires).by.0 in
    rw c.in-Compensate.is (met c.meet.result c.in-Compensate.txn.0 history _ c.args.self.now c.meet.new.self _ are c.meet.ensures.pending
    (c.remove_newest.ensures (all_pending history) are.pending_are) c.meet.ensures.unfinished c.meet.ensures.greatest refl refl by)

pub returns-in-Inventory : goal.returns-in-Inventory
returns-in-Inventory c = λ history are.
    let by = (rw c.in-Inventory.is at c.requires).by.0 in
    rw c.in-Inventory.is (met c.meet-in-Inventory.result c.in-Inventory.txn.0 history _ c.args.self.now c.meet-in-Inventory.new.self _ are
    c.meet-in-Inventory.ensures.pending are.pending_are c.meet-in-Inventory.ensures.unfinished c.meet-in-Inventory.ensures.greatest refl refl by)

pub returns-in-Commit : goal.returns-in-Commit
returns-in-Commit c = λ history are.
    let pending = c.finish.ensures.pending (all_pending history) are.pending_are in
    elim c.in-Commit.is [
      | inl is ↦ rw is (finished c.in-Commit.txn.0 history _ c.args.self.now c.finish.new.self are pending c.finish.ensures.unfinished c.finish.ensures.greatest refl refl)
      | inr is ↦ rw is (finished c.in-Commit.txn.0 history _ c.args.self.now c.finish.new.self are pending c.finish.ensures.unfinished c.finish.ensures.greatest refl refl)
    ]
