-- The images of all moments since an opening, by how a journal stands to its volume.
use Rattle.std.specs.Prelude.{ℕ, Bool, []}
use Rattle.rm_outside.specs.Images.{Image}
use Rattle.rm_outside.specs.Moments.{weaker}
use Rattle.rm_outside.specs.Calls.{AllLeft, Facts}
use Rattle.rm_master.specs.declared.fields.Fields.{Fields}
use Rattle.rm_history.specs.Acts.{History}
use Rattle.rm_history.specs.Transactions.{IsFinished}
use Rattle.rm_history.specs.Undoing.{Restarted}
use Rattle.rm_wal.specs.Tails.{LogValue}
use Rattle.rm_core.specs.Names.{IsAcknowledged, Machine}
use Rattle.rm_image.specs.Starts.{Start}
use Rattle.rm_pool.specs.Journals.{Begins, Standing}
use Rattle.rm_crash.specs.Crashes.{IsFound, start_of, IsRunFrom, IsCrashImage, HasAcknowledged}
use Rattle.rm_crash.proofs.Crashes.{restart_images_are_found, crash_images_are_found, acknowledged_stay}

module _ {opened now : Facts} {log : LogValue} {durable : History} {is_known : Bool} (fields : Fields) (first : History) where
  -- each image since the opening, where a restart has come so far,
  pub each_of_restart : (start : Start) (history new : History) → ((d : Image) → opened.may_leave d → IsFound start fields first d)
      → Restarted start.format first new → Begins history new → Standing opened now log first history durable is_known
      → AllLeft opened now (IsCrashImage start fields first [])
  each_of_restart start history new found restarted begins stands =
      weaker stands.since.time (λ c left. restart_images_are_found start fields first history new left.others.0 c (found left.others.0 left.others.1)
      restarted begins left.others.2 left.between)

  module _ (m : Machine) (found : (d : Image) → opened.may_leave d → IsFound (start_of m) fields first d) (from : IsRunFrom first m)
      (stands : Standing opened now log first m.state.history durable is_known) where
    -- and where a run has,
    pub each_of_run : AllLeft opened now (IsCrashImage (start_of m) fields first m.trace)
    each_of_run =
        weaker stands.since.time (λ c left. crash_images_are_found fields first m left.others.0 c (found left.others.0 left.others.1) from left.others.2 left.between)

    -- and each image now, where what was acknowledged is durable
    pub each_now : ((txn : ℕ) → IsAcknowledged m.trace txn → IsFinished durable txn) → (c : Image) → now.may_leave c
        → HasAcknowledged (start_of m) fields first m.trace c
    each_now finished c left =
        let by = stands.since.crash.each c left in
        acknowledged_stay fields first durable m by.0 c (found by.0 by.1) from by.2 stands.grown (stands.left c left) finished
