-- The change that a record makes is that of its act.
use Rattle.std.proofs.Common.{◌≡◌, ℕ, refl, sym, subst, Option, IfSome, IsSomeAnd, Result, Ok, Err, IfErr, IsErrAnd}
use Rattle.rm_types.specs.declared.areas.Area.{Area}
use Rattle.rm_types.specs.declared.areas.Area.TheVariants.{Log}
use Rattle.rm_types.specs.declared.faults.Fault.TheVariants as fault
use Rattle.rm_types.specs.declared.faults.StoreFault.{StoreFault}
use Rattle.rm_types.specs.declared.faults.StoreFault.TheVariants as store
use Rattle.rm_types.specs.declared.numbers.Lsn.{Lsn}
use Rattle.rm_record.specs.declared.records.LogRecord.{LogRecord}
use Rattle.rm_record.specs.declared.records.LogRecord.TheVariants.{Insert, Delete, Update, Compensate, Inventory, Commit, End, Checkpoint}
use Rattle.rm_record.specs.Records.{IsRecord}
use Rattle.rm_history.specs.Acts.{Change, History, act_at, changes}
use Rattle.rm_pool.specs.Journals.{IsRecordAt}
use Rattle.rm_undo.specs.declared.changes.Pending.{Pending}
use Rattle.rm_undo.specs.Changes.{HasChangeAt, IsDamageAt, IsOf, MayGoBack, change_in}

-- a change of that act
made : (lsn : ℕ) (found : LogRecord) (c : Change) → act_at lsn found ≡ changes c → IsSomeAnd (change_in found) (IsOf c)
made lsn (Insert txn under rid need row) c e = record { txn = cc; under = cc; rid = cc; need = cc; before = cc }
made lsn (Delete txn under rid need old) c e = record { txn = cc; under = cc; rid = cc; need = cc; before = cc }
made lsn (Update txn under rid need old new) c e = record { txn = cc; under = cc; rid = cc; need = cc; before = cc }
made lsn (Compensate txn undone next rid back) c e = absurd cc
made lsn (Inventory txn page category) c e = absurd cc
made lsn (Commit txn) c e = absurd cc
made lsn (End txn) c e = absurd cc
made lsn (Checkpoint next losers pages blocks) c e = absurd cc

-- what a record makes that was found in a history, where a change of it was looked for
pub made_at : {history : History} {txn lsn : ℕ} {c : Change} (found : LogRecord) {makes : Option Pending} → change_in found ≡ makes
    → IsRecordAt history lsn found → HasChangeAt history txn lsn c → IsSomeAnd makes (IsOf c)
made_at {lsn = lsn} {c = c} found is at has = subst (λ (o : Option Pending). IsSomeAnd o (IsOf c)) is (made lsn found c (at (changes c) has.is_in has.lsn_is))

-- what the slot held may be put back into it
pub goes_back : (found : LogRecord) → IsRecord found → IfSome (change_in found) MayGoBack
goes_back (Insert txn under rid need row) is = record { place = is.0.place; held = tt }
goes_back (Delete txn under rid need old) is = record { place = is.0.place; held = is.1 }
goes_back (Update txn under rid need old new) is = record { place = is.0.place; held = is.1.0 }
goes_back (Compensate txn undone next rid back) is = tt
goes_back (Inventory txn page category) is = tt
goes_back (Commit txn) is = tt
goes_back (End txn) is = tt
goes_back (Checkpoint next losers pages blocks) is = tt

-- a damage, from what is said of each answer
pub damage_of : {T : Type 0} (lsn : Lsn) {Why : Type 0} (stored : StoreFault)
    → ((area : Area) (at : ℕ) → (let outcome : Result T StoreFault = Err stored in outcome ≡ Err (store.Fault (fault.Damaged area at)))
    → (area ≡ Log) × (at ≡ lsn.0) × Why)
    → IsDamageAt lsn Why stored
damage_of lsn (store.Fault (fault.Damaged area at)) each = each area at refl
damage_of lsn (store.Fault (fault.Volume area)) each = tt
damage_of lsn store.NoMemory each = tt

-- one for a reason that follows
pub damage_for : (lsn : Lsn) {Why More : Type 0} (stored : StoreFault) → (Why → More) → IsDamageAt lsn Why stored → IsDamageAt lsn More stored
damage_for lsn (store.Fault (fault.Damaged area at)) so is = (is.0, is.1, so is.2)
damage_for lsn (store.Fault (fault.Volume area)) so is = tt
damage_for lsn store.NoMemory so is = tt

-- one that is passed on
pub passed : {T : Type 0} (lsn : Lsn) {Why More : Type 0} (result : Result T StoreFault) (stored : StoreFault) → IsErrAnd result (λ given. given ≡ stored)
    → IsDamageAt lsn Why stored → (Why → More) → IfErr result (IsDamageAt lsn More)
passed lsn (Ok value) stored given is so = tt
passed lsn {More = More} (Err given) stored same is so = subst (IsDamageAt lsn More) (sym same) (damage_for lsn stored so is)
