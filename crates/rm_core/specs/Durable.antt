-- A transaction whose commit record is durable.
use Rattle.std.specs.Prelude.{◌≡◌, ℕ, ◌<◌, List, [], ◌∷◌, ◌⊎◌}
use Rattle.rm_core.specs.Below.{Act, History, commits}
use Rattle.rm_core.specs.Events.{Event}
use Rattle.rm_core.specs.Orders.{order_of, IsAmong}
use Rattle.rm_events.specs.declared.events.Seen.TheVariants as sees

-- the record is in the history
abbrev pub IsLogged : History → Act → Type 0
IsLogged [] act = ⊥
IsLogged (newest ∷ before) act = (newest ≡ act) ⊎ IsLogged before act

-- an event after the transaction's commit tells that the log is durable to that offset
abbrev pub IsForcedFor : List Event → ℕ → ℕ → Type 0
IsForcedFor [] txn durable = ⊥
IsForcedFor (newest ∷ before) txn durable = ((newest.seen ≡ sees.Force durable) × IsAmong (order_of before) txn) ⊎ IsForcedFor before txn durable

-- its commit record stands before a durable offset that the trace tells after it
pub record IsDurable (history : History) (trace : List Event) (txn : ℕ) : Type 0 where
  pub lsn : ℕ
  pub durable : ℕ
  pub logged : IsLogged history (commits (record { lsn = lsn; txn = txn }))
  pub told : IsForcedFor trace txn durable
  pub below : lsn < durable
