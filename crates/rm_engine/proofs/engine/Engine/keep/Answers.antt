use Rattle.std.proofs.Common.{◌≡◌, ◌∙◌, ℕ, ◌+◌, ◌-◌, ◌^◌, ◌≤◌, ◌<◌, refl, sym, ap, subst, inl, arith}
use Rattle.rm_types.specs.declared.numbers.TxnId.{TxnId}
use Rattle.rm_plain.specs.declared.lines.Line.{Line}
use Rattle.rm_wal.specs.Tails.{end_of}
use Rattle.rm_engine.specs.declared.room.TheConstants.{OWED}
use Rattle.rm_outside.specs.Moments.{started, weaker}
use Rattle.rm_model.specs.Files.{rows_of}
use Rattle.rm_session.specs.Session.{Core}
use Rattle.rm_engine.specs.Numbers.{IsReady, HasRoom, txn_of_next}
use Rattle.rm_engine.proofs.Flushes.{holds_now, at_begun, at_inserted, tails_closing, holds_in_commit, at_committed}
use Rattle.rm_engine.proofs.Leaves.{both}
use Rattle.rm_engine.proofs.Kept.{changes_at, left_by_commit, stays_begin, stays_insert, stays_commit, at_stays, at_known}
use Rattle.rm_outside.proofs.CallLemmas.{keeps_none}
use Rattle.rm_engine.proofs.engine.Engine.keep.Goals as goal

-- a begin

pub returns-in-Begin-Began-clause-ready : goal.returns-in-Begin-Began-clause-ready
returns-in-Begin-Began-clause-ready g c =
    let b = c.in-Begin-Began in
    let changed = changes_at c.args.before.now.value.core _ _ _ _ _ b.is-0 b.is-1 c.requires.changed in
    let room : (c.args.before.now.value.core.next < 2 ^ 32) × (end_of c.args.self.now.log + OWED ≤ c.args.self.now.log.limit) =
    subst (λ (l : Line). HasRoom c.args.before.now.value.core c.args.self.now.log c.args.self.now.inserts l) b.is-0 c.requires.room changed.0 in
    subst (λ (core : Core). IsReady core c.args.self.now.log 0) (sym changed.1) (record {
      pages = c.requires.ready.pages;
      first = omega arith;
      ids = omega (arith, room.0);
      limit = c.requires.ready.limit;
      began = λ active. omega (arith, c.requires.ready.first);
      room = λ active. omega (arith, room.1);
      room_after = λ active some. omega (arith, room.1);
    })

pub returns-in-Begin-Began-clause-at : goal.returns-in-Begin-Began-clause-at
returns-in-Begin-Began-clause-at g c pages count rows at =
    let b = c.in-Begin-Began in
    let changed = changes_at c.args.before.now.value.core _ _ _ _ _ b.is-0 b.is-1 c.requires.changed in
    at_known pages count rows (rows_of c.args.before.now.value.core.pages) _ _ _ _ 0 0 _ _ _ changed.1 refl b.is-1
    (at_begun pages count rows c.args.before.now.value.core _ _ _ _ at changed.0)

pub returns-in-Begin-Began-clause-any_moment : goal.returns-in-Begin-Began-clause-any_moment
returns-in-Begin-Began-clause-any_moment g c pages count rows at =
    started _ _ _ (λ d since. inl (holds_now pages count rows _ _ _ _ _ at d (g.met.V.Volume.only_now c.args.volume.now d since)))

-- an insert

pub returns-in_err-lsn-in-Insert-Inserted-clause-any_moment : goal.returns-in_err-lsn-in-Insert-Inserted-clause-any_moment
returns-in_err-lsn-in-Insert-Inserted-clause-any_moment g c pages count rows at =
    started _ _ _ (λ d since. inl (holds_now pages count rows _ _ _ _ _ at d (g.met.V.Volume.only_now c.args.volume.now d since)))

pub returns-in_ok-lsn-in-Insert-Inserted-clause-any_moment : goal.returns-in_ok-lsn-in-Insert-Inserted-clause-any_moment
returns-in_ok-lsn-in-Insert-Inserted-clause-any_moment g c pages count rows at =
    started _ _ _ (λ d since. inl (holds_now pages count rows _ _ _ _ _ at d (g.met.V.Volume.only_now c.args.volume.now d since)))

pub returns-in_ok-lsn-in-Insert-Inserted-clause-at : goal.returns-in_ok-lsn-in-Insert-Inserted-clause-at
returns-in_ok-lsn-in-Insert-Inserted-clause-at g c pages count rows at =
    let b = c.in-Insert-Inserted in
    let changed = changes_at c.args.before.now.value.core _ _ _ _ _ b.is-0 b.is-1 c.requires.changed in
    let next : c.next.result ≡ c.args.before.now.value.core.next = c.next.ensures ∙ ap (λ (core : Core). core.next) changed.2 in
    at_known pages count rows (rows_of c.args.before.now.value.core.pages) _ _ _ _ c.in_ok-lsn-in-Insert-Inserted.lsn.0 _ _ _ _ changed.2 c.in_ok-lsn-in-Insert-Inserted.ensures.ok b.is-1
    (at_inserted pages count rows c.args.before.now.value.core _ _ _ _ at c.in_ok-lsn-in-Insert-Inserted.lsn (txn_of_next c.next.result) c.args.self.now.under b.rid b.row changed.0 changed.1 (ap (λ (n : ℕ). n - 1) next) refl (c.requires.ready.first)
    c.in_ok-lsn-in-Insert-Inserted.ensures.lsn c.in_ok-lsn-in-Insert-Inserted.ensures.is_record)

-- a commit

pub returns-in_err-log_commit-in-Commit-Committed-clause-any_moment : goal.returns-in_err-log_commit-in-Commit-Committed-clause-any_moment
returns-in_err-log_commit-in-Commit-Committed-clause-any_moment g c pages count rows at =
    let b = c.in-Commit-Committed in
    let changed = changes_at c.args.before.now.value.core _ _ _ _ _ b.is-0 b.is-1 c.requires.changed in
    let next : c.next-in-Commit-Committed.result ≡ c.args.before.now.value.core.next = c.next-in-Commit-Committed.ensures ∙ ap (λ (core : Core). core.next) changed.1 in
    let txn : TxnId = txn_of_next c.next-in-Commit-Committed.result in
    let txn_is = ap (λ (n : ℕ). n - 1) next in
    weaker (both (c.log_commit.ensures.logs _ _ (tails_closing pages count rows _ _ _ _ _ at txn changed.0 txn_is c.requires.ready.first c.requires.ready c.log_commit.ensures.is_record)) c.log_commit.ensures.any_moment)
    (λ d each. left_by_commit count rows c.args.before.now.value.core _ d b.is-0 changed.0
    (holds_in_commit pages count rows _ _ _ _ _ at txn changed.0 txn_is c.requires.ready.first c.requires.ready c.log_commit.ensures.is_record d each.0 each.1))

pub returns-in_ok-log_commit-in-Commit-Committed-clause-any_moment : goal.returns-in_ok-log_commit-in-Commit-Committed-clause-any_moment
returns-in_ok-log_commit-in-Commit-Committed-clause-any_moment g c pages count rows at =
    let b = c.in-Commit-Committed in
    let changed = changes_at c.args.before.now.value.core _ _ _ _ _ b.is-0 b.is-1 c.requires.changed in
    let next : c.next-in-Commit-Committed.result ≡ c.args.before.now.value.core.next = c.next-in-Commit-Committed.ensures ∙ ap (λ (core : Core). core.next) changed.1 in
    let txn : TxnId = txn_of_next c.next-in-Commit-Committed.result in
    let txn_is = ap (λ (n : ℕ). n - 1) next in
    weaker (both (c.log_commit.ensures.logs _ _ (tails_closing pages count rows _ _ _ _ _ at txn changed.0 txn_is c.requires.ready.first c.requires.ready c.log_commit.ensures.is_record)) c.log_commit.ensures.any_moment)
    (λ d each. left_by_commit count rows c.args.before.now.value.core _ d b.is-0 changed.0
    (holds_in_commit pages count rows _ _ _ _ _ at txn changed.0 txn_is c.requires.ready.first c.requires.ready c.log_commit.ensures.is_record d each.0 each.1))

pub returns-in_ok-log_commit-in-Commit-Committed-clause-at : goal.returns-in_ok-log_commit-in-Commit-Committed-clause-at
returns-in_ok-log_commit-in-Commit-Committed-clause-at g c pages count rows at =
    let b = c.in-Commit-Committed in
    let changed = changes_at c.args.before.now.value.core _ _ _ _ _ b.is-0 b.is-1 c.requires.changed in
    let next : c.next-in-Commit-Committed.result ≡ c.args.before.now.value.core.next = c.next-in-Commit-Committed.ensures ∙ ap (λ (core : Core). core.next) changed.1 in
    let txn : TxnId = txn_of_next c.next-in-Commit-Committed.result in
    let txn_is = ap (λ (n : ℕ). n - 1) next in
    let done = c.in_ok-log_commit-in-Commit-Committed.ensures in
    let tails = tails_closing pages count rows _ _ _ _ _ at txn changed.0 txn_is c.requires.ready.first c.requires.ready c.log_commit.ensures.is_record in
    at_known pages count rows (rows_of c.args.before.now.value.core.pages) _ _ _ _ c.args.self.now.under.0 c.args.self.now.inserts _ _ _ changed.1 done.log b.is-1
    (at_committed pages count rows c.args.before.now.value.core _ _ _ _ at txn changed.0 txn_is c.requires.ready.first c.requires.ready c.log_commit.ensures.is_record
    (g.V.Volume.may_leave c.log_commit.new.volume) (done.logs_ok _ _ tails) done.comes)

-- any other reply

pub returns-in_default-clause-ready : goal.returns-in_default-clause-ready
returns-in_default-clause-ready g c =
    let stays = stays_begin _ _ _ (λ id. c.in_default.not-Began-1 id) (changes_at c.args.before.now.value.core _ _ _ _ _ c.in_default.is-0 refl c.requires.changed) in
    subst (λ (core : Core). IsReady core c.args.self.now.log c.args.self.now.inserts) (sym stays.core) c.requires.ready

pub returns-in_default-clause-at : goal.returns-in_default-clause-at
returns-in_default-clause-at g c pages count rows at =
    let stays = stays_begin _ _ _ (λ id. c.in_default.not-Began-1 id) (changes_at c.args.before.now.value.core _ _ _ _ _ c.in_default.is-0 refl c.requires.changed) in
    at_stays _ _ _ stays pages count rows _ _ _ _ at

pub returns-in_default-clause-any_moment : goal.returns-in_default-clause-any_moment
returns-in_default-clause-any_moment g c pages count rows at =
    started _ _ _ (λ d since. inl (holds_now pages count rows _ _ _ _ _ at d (g.met.V.Volume.only_now c.args.volume.now d since)))

pub returns-in_default-2-clause-ready : goal.returns-in_default-2-clause-ready
returns-in_default-2-clause-ready g c =
    let stays = stays_insert _ _ c.in_default.field-0-0 c.in_default.field-1-0 _ (λ rid. c.in_default.not-Inserted-1 rid) (changes_at c.args.before.now.value.core _ _ _ _ _ c.in_default.is-0 refl c.requires.changed) in
    subst (λ (core : Core). IsReady core c.args.self.now.log c.args.self.now.inserts) (sym stays.core) c.requires.ready

pub returns-in_default-2-clause-at : goal.returns-in_default-2-clause-at
returns-in_default-2-clause-at g c pages count rows at =
    let stays = stays_insert _ _ c.in_default.field-0-0 c.in_default.field-1-0 _ (λ rid. c.in_default.not-Inserted-1 rid) (changes_at c.args.before.now.value.core _ _ _ _ _ c.in_default.is-0 refl c.requires.changed) in
    at_stays _ _ _ stays pages count rows _ _ _ _ at

pub returns-in_default-2-clause-any_moment : goal.returns-in_default-2-clause-any_moment
returns-in_default-2-clause-any_moment g c pages count rows at =
    started _ _ _ (λ d since. inl (holds_now pages count rows _ _ _ _ _ at d (g.met.V.Volume.only_now c.args.volume.now d since)))

pub returns-in_default-3-clause-ready : goal.returns-in_default-3-clause-ready
returns-in_default-3-clause-ready g c =
    let stays = stays_commit _ _ _ c.in_default.not-Committed-1 (changes_at c.args.before.now.value.core _ _ _ _ _ c.in_default.is-0 refl c.requires.changed) in
    subst (λ (core : Core). IsReady core c.args.self.now.log c.args.self.now.inserts) (sym stays.core) c.requires.ready

pub returns-in_default-3-clause-at : goal.returns-in_default-3-clause-at
returns-in_default-3-clause-at g c pages count rows at =
    let stays = stays_commit _ _ _ c.in_default.not-Committed-1 (changes_at c.args.before.now.value.core _ _ _ _ _ c.in_default.is-0 refl c.requires.changed) in
    at_stays _ _ _ stays pages count rows _ _ _ _ at

pub returns-in_default-3-clause-any_moment : goal.returns-in_default-3-clause-any_moment
returns-in_default-3-clause-any_moment g c pages count rows at =
    started _ _ _ (λ d since. inl (holds_now pages count rows _ _ _ _ _ at d (g.met.V.Volume.only_now c.args.volume.now d since)))

pub returns-in_default-4-clause-any_moment : goal.returns-in_default-4-clause-any_moment
returns-in_default-4-clause-any_moment g c pages count rows at =
    started _ _ _ (λ d since. inl (holds_now pages count rows _ _ _ _ _ at d (g.met.V.Volume.only_now c.args.volume.now d since)))

pub returns-in-Begin-Began-clause-writes : goal.returns-in-Begin-Began-clause-writes
returns-in-Begin-Began-clause-writes g c =
    (keeps_none (λ d since. g.met.V.Volume.only_now c.args.volume.now d since), refl)

pub returns-in_err-lsn-in-Insert-Inserted-clause-writes : goal.returns-in_err-lsn-in-Insert-Inserted-clause-writes
returns-in_err-lsn-in-Insert-Inserted-clause-writes g c =
    (keeps_none (λ d since. g.met.V.Volume.only_now c.args.volume.now d since), refl)

pub returns-in_ok-lsn-in-Insert-Inserted-clause-writes : goal.returns-in_ok-lsn-in-Insert-Inserted-clause-writes
returns-in_ok-lsn-in-Insert-Inserted-clause-writes g c =
    (keeps_none (λ d since. g.met.V.Volume.only_now c.args.volume.now d since), refl)

pub returns-in_default-clause-writes : goal.returns-in_default-clause-writes
returns-in_default-clause-writes g c =
    (keeps_none (λ d since. g.met.V.Volume.only_now c.args.volume.now d since), refl)
