-- Records of a few calls, evaluated.
use Rattle.std.proofs.Common.{◌≡◌, true, false, List, [], ◌∷◌, refl}
use Rattle.rm_types.specs.declared.areas.Area.TheVariants.{Log, Data}
use Rattle.rm_outside.specs.History.{Write, Sync}
use Rattle.rm_calls.specs.declared.answer.Answer.TheVariants.{Done, Interrupted, Failed}
use Rattle.rm_calls.specs.Calls.{Call, Wrote, Synced, has_fault, is_lost}
use Rattle.rm_calls.specs.Replay.{events}

-- two bytes are written and synced
abbrev kept : List Call
kept = Synced Log (Done 0) ∷ Wrote Log 0 (97 ∷ 98 ∷ []) (Done 2) ∷ []

what_is_kept : events kept ≡ Sync Log ∷ Write Log 0 (97 ∷ 98 ∷ []) true ∷ []
unfolding events is_lost
what_is_kept = refl

-- of two bytes more one is taken
abbrev short : List Call
short = Wrote Log 2 (99 ∷ 100 ∷ []) (Done 1) ∷ kept

a_short_write_loses_its_area : is_lost short Log ≡ true
unfolding is_lost
a_short_write_loses_its_area = refl

it_loses_no_other : is_lost short Data ≡ false
unfolding is_lost
it_loses_no_other = refl

-- a sync of it then makes nothing durable
a_lost_area_is_not_synced : events (Synced Log (Done 0) ∷ short) ≡ Write Log 2 (99 ∷ 100 ∷ []) false ∷ events kept
unfolding events is_lost
a_lost_area_is_not_synced = refl

-- one that a signal interrupted is a fault, and can be made again
an_interrupted_write_is_a_fault : has_fault (Wrote Log 2 (99 ∷ []) Interrupted ∷ kept) Log ≡ true
unfolding has_fault
an_interrupted_write_is_a_fault = refl

it_loses_nothing : is_lost (Wrote Log 2 (99 ∷ []) Interrupted ∷ kept) Log ≡ false
unfolding is_lost
it_loses_nothing = refl

-- a sync that failed makes nothing durable, and loses its area
a_failed_sync_is_none : events (Synced Data Failed ∷ kept) ≡ events kept
unfolding events
a_failed_sync_is_none = refl

it_loses_its_area : is_lost (Synced Data Failed ∷ kept) Data ≡ true
unfolding is_lost
it_loses_its_area = refl
