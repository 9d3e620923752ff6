-- What the replies of a session keep of where it stands.
use Rattle.std.proofs.Common.{◌≡◌, ◌⊎◌, inl, inr, ℕ, ◌+◌, true, List, refl, sym, subst}
use Rattle.rm_types.specs.declared.numbers.Rid.{Rid}
use Rattle.rm_types.specs.declared.numbers.TxnId.{TxnId}
use Rattle.rm_plain.specs.declared.lines.Line.{Line}
use Rattle.rm_plain.specs.declared.lines.Line.TheVariants as line
use Rattle.rm_events.specs.declared.lines.Target.{Target}
use Rattle.rm_types.specs.declared.operations.Reply.{Reply}
use Rattle.rm_types.specs.declared.operations.Reply.TheVariants as reply
use Rattle.rm_outside.specs.Images.{Image}
use Rattle.rm_model.specs.Object.{Rows}
use Rattle.rm_model.specs.Files.{rows_of}
use Rattle.rm_session.specs.Session.{Core}
use Rattle.rm_wal.specs.Tails.{LogValue}
use Rattle.rm_restart.specs.Sound.{Holds}
use Rattle.rm_engine.specs.At.{IsAt, Changes, IsCommitOf, LeftByTurn, count_after, committed_after}

-- the same, where the line and the reply are known
pub changes_at : (before new : Core) (asked other : Line) (told said : Reply) → asked ≡ other → told ≡ said → Changes before asked told new → Changes before other said new
changes_at before new asked other told said same_line same_reply changed =
    subst (λ (r : Reply). Changes before other r new) same_reply (subst (λ (l : Line). Changes before l told new) same_line changed)

-- the reply leaves the session, and what is committed
pub record Stays (before new : Core) (told : Reply) : Type 0 where
  pub core : new ≡ before
  pub count : (n : ℕ) → count_after told n ≡ n
  pub rows : (shown committed : Rows) → committed_after told shown committed ≡ committed

pub stays_read : (before new : Core) (read : Target) (told : Reply) → Changes before (line.Read read) told new → Stays before new told
stays_read before new read (reply.Began id) changed = absurd changed.0
stays_read before new read (reply.Inserted rid) changed = absurd changed.0
stays_read before new read reply.NoSpace changed = record { core = changed.1; count = λ n. refl; rows = λ shown committed. refl }
stays_read before new read (reply.Row row) changed = record { core = changed.1; count = λ n. refl; rows = λ shown committed. refl }
stays_read before new read reply.NoRow changed = record { core = changed.1; count = λ n. refl; rows = λ shown committed. refl }
stays_read before new read reply.BadRid changed = record { core = changed.1; count = λ n. refl; rows = λ shown committed. refl }
stays_read before new read reply.Committed changed = absurd changed.0
stays_read before new read reply.Unbound changed = record { core = changed.1; count = λ n. refl; rows = λ shown committed. refl }
stays_read before new read reply.Skipped changed = record { core = changed.1; count = λ n. refl; rows = λ shown committed. refl }

pub stays_begin : (before new : Core) (told : Reply) → ((id : TxnId) → told ≡ reply.Began id → ⊥) → Changes before line.Begin told new → Stays before new told
stays_begin before new (reply.Began id) other changed = absurd (other id refl)
stays_begin before new (reply.Inserted rid) other changed = absurd changed.0
stays_begin before new reply.NoSpace other changed = record { core = changed.1; count = λ n. refl; rows = λ shown committed. refl }
stays_begin before new (reply.Row row) other changed = record { core = changed.1; count = λ n. refl; rows = λ shown committed. refl }
stays_begin before new reply.NoRow other changed = record { core = changed.1; count = λ n. refl; rows = λ shown committed. refl }
stays_begin before new reply.BadRid other changed = record { core = changed.1; count = λ n. refl; rows = λ shown committed. refl }
stays_begin before new reply.Committed other changed = absurd changed.0
stays_begin before new reply.Unbound other changed = record { core = changed.1; count = λ n. refl; rows = λ shown committed. refl }
stays_begin before new reply.Skipped other changed = record { core = changed.1; count = λ n. refl; rows = λ shown committed. refl }

pub stays_insert : (before new : Core) (name : ℕ) (row : List ℕ) (told : Reply) → ((rid : Rid) → told ≡ reply.Inserted rid → ⊥) → Changes before (line.Insert name row) told new → Stays before new told
stays_insert before new name row (reply.Began id) other changed = absurd changed.0
stays_insert before new name row (reply.Inserted rid) other changed = absurd (other rid refl)
stays_insert before new name row reply.NoSpace other changed = record { core = changed.1; count = λ n. refl; rows = λ shown committed. refl }
stays_insert before new name row (reply.Row found) other changed = record { core = changed.1; count = λ n. refl; rows = λ shown committed. refl }
stays_insert before new name row reply.NoRow other changed = record { core = changed.1; count = λ n. refl; rows = λ shown committed. refl }
stays_insert before new name row reply.BadRid other changed = record { core = changed.1; count = λ n. refl; rows = λ shown committed. refl }
stays_insert before new name row reply.Committed other changed = absurd changed.0
stays_insert before new name row reply.Unbound other changed = record { core = changed.1; count = λ n. refl; rows = λ shown committed. refl }
stays_insert before new name row reply.Skipped other changed = record { core = changed.1; count = λ n. refl; rows = λ shown committed. refl }

pub stays_commit : (before new : Core) (told : Reply) → (told ≡ reply.Committed → ⊥) → Changes before line.Commit told new → Stays before new told
stays_commit before new (reply.Began id) other changed = absurd changed.0
stays_commit before new (reply.Inserted rid) other changed = absurd changed.0
stays_commit before new reply.NoSpace other changed = record { core = changed.1; count = λ n. refl; rows = λ shown committed. refl }
stays_commit before new (reply.Row row) other changed = record { core = changed.1; count = λ n. refl; rows = λ shown committed. refl }
stays_commit before new reply.NoRow other changed = record { core = changed.1; count = λ n. refl; rows = λ shown committed. refl }
stays_commit before new reply.BadRid other changed = record { core = changed.1; count = λ n. refl; rows = λ shown committed. refl }
stays_commit before new reply.Committed other changed = absurd (other refl)
stays_commit before new reply.Unbound other changed = record { core = changed.1; count = λ n. refl; rows = λ shown committed. refl }
stays_commit before new reply.Skipped other changed = record { core = changed.1; count = λ n. refl; rows = λ shown committed. refl }

pub at_stays : (before new : Core) (told : Reply) → Stays before new told → (pages count : ℕ) (rows : Rows) (log : LogValue) (under inserts : ℕ) (left : Image → Type 0)
    → IsAt pages count rows before log under inserts left → IsAt pages (count_after told count) (committed_after told (rows_of before.pages) rows) new log under inserts left
at_stays before new told stays pages count rows log under inserts left at =
    subst (λ (core : Core). IsAt pages (count_after told count) (committed_after told (rows_of before.pages) rows) core log under inserts left) (sym stays.core)
    (subst (λ (n : ℕ). IsAt pages n (committed_after told (rows_of before.pages) rows) before log under inserts left) (sym (stays.count count))
    (subst (λ (r : Rows). IsAt pages count r before log under inserts left) (sym (stays.rows (rows_of before.pages) rows)) at))

-- the next stands for what a reply makes of it
pub at_known : (pages count : ℕ) (rows shown : Rows) (core new : Core) (log grown : LogValue) (under inserts : ℕ) (left : Image → Type 0) (told said : Reply)
    → new ≡ core → grown ≡ log → told ≡ said → IsAt pages (count_after said count) (committed_after said shown rows) core log under inserts left
    → IsAt pages (count_after told count) (committed_after told shown rows) new grown under inserts left
at_known pages count rows shown core new log grown under inserts left told said core_is log_is told_is at =
    subst (λ (c : Core). IsAt pages (count_after told count) (committed_after told shown rows) c grown under inserts left) (sym core_is)
    (subst (λ (l : LogValue). IsAt pages (count_after told count) (committed_after told shown rows) core l under inserts left) (sym log_is)
    (subst (λ (r : Reply). IsAt pages (count_after r count) (committed_after r shown rows) core log under inserts left) (sym told_is) at))

-- an image that a commit may leave
pub left_by_commit : (count : ℕ) (rows : Rows) (core : Core) (asked : Line) (c : Image) → asked ≡ line.Commit → core.active ≡ true → Holds count rows c ⊎ Holds (count + 1) (rows_of core.pages) c → LeftByTurn count rows core asked c
left_by_commit count rows core asked c is active (inl old) = inl old
left_by_commit count rows core asked c is active (inr new) = inr (subst (λ (l : Line). IsCommitOf core l) (sym is) active, new)
