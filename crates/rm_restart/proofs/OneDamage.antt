-- A volume is damaged at one place alone.
use Rattle.std.proofs.Common.{◌≡◌, ◌⊎◌, inl, inr, ℕ, List, [], ◌∷◌, ◌++◌, refl, sym, ap, subst, ◌∙◌}
use Rattle.rm_types.specs.declared.areas.Area.{Area}
use Rattle.rm_types.specs.declared.areas.Area.TheVariants.{Master, Log, Data, Space, Copy}
use Rattle.rm_outside.specs.Images.{Image}
use Rattle.rm_master.specs.declared.fields.Fields.{Fields}
use Rattle.rm_master.specs.Slots.{HasFields}
use Rattle.rm_history.specs.Logs.{Batch}
use Rattle.rm_history.specs.Acts.{Act, History, lsn_of}
use Rattle.rm_history.specs.Batched.{acts_of_batches}
use Rattle.rm_history.proofs.Readings.{log_once}
use Rattle.rm_history.proofs.Damages.{damaged_has_no_log, damage_once}
use Rattle.rm_restart.specs.Opening.{IsDamage, IsMisfit, HasNoMisfit, IsMisfitAt, IsMisfitOf, NamesCheckpoint}
use Rattle.rm_restart.proofs.Soundness.{fields_once, master_not_damaged}

-- what the master of a damaged log names
record NamesAt (content : Image) (checkpoint : ℕ) : Type 0 where
  pub fields : Fields
  pub read : HasFields (content Master) fields
  pub place : checkpoint ≡ fields.checkpoint

checkpoint_once : (content : Image) (one other : ℕ) → NamesAt content one → NamesAt content other → one ≡ other
checkpoint_once content one other first second =
    first.place ∙ ap (λ (f : Fields). f.checkpoint) (fields_once (content Master) first.fields second.fields first.read second.read) ∙ sym second.place

-- the first misfit of a history
not_earlier : (pages : ℕ) (more : History) (act : Act) (before history : History) → HasNoMisfit pages history → history ≡ more ++ act ∷ before
    → IsMisfit pages before act → ⊥
not_earlier pages [] act before history none split misfit = (subst (HasNoMisfit pages) split none).0 misfit
not_earlier pages (newest ∷ more) act before history none split misfit =
    not_earlier pages more act before (more ++ act ∷ before) (subst (HasNoMisfit pages) split none).1 refl misfit

-- of two records of a history, one is before the other, or they are one
abbrev AreOrdered : Act → History → Act → History → Type 0
AreOrdered act before other earlier =
    (act ≡ other) ⊎ (((more : History) × (earlier ≡ more ++ act ∷ before)) ⊎ ((more : History) × (before ≡ more ++ other ∷ earlier)))

ordered : (more later : History) (act other : Act) (before earlier : History) → more ++ act ∷ before ≡ later ++ other ∷ earlier → AreOrdered act before other earlier
ordered [] [] act other before earlier same = inl cc
ordered [] (newest ∷ later) act other before earlier same = inr (inr (later, cc))
ordered (newest ∷ more) [] act other before earlier same = inr (inl (more, cc))
ordered (newest ∷ more) (newer ∷ later) act other before earlier same = let rest : more ++ act ∷ before ≡ later ++ other ∷ earlier = cc in ordered more later act other before earlier rest

misfit_once : (pages : ℕ) (history : History) (at place : ℕ) → IsMisfitAt pages history at → IsMisfitAt pages history place → at ≡ place
misfit_once pages history at place one other =
    elim (ordered one.more other.more one.act other.act one.before other.before (sym one.split ∙ other.split)) [
      | inl same ↦ one.place ∙ ap lsn_of same ∙ sym other.place
      | inr (inl found) ↦ absurd (not_earlier pages found.0 one.act one.before other.before other.first found.1 one.misfit)
      | inr (inr found) ↦ absurd (not_earlier pages found.0 other.act other.before one.before one.first found.1 other.misfit)
    ]

misfits_once : (content : Image) (at place : ℕ) → IsMisfitOf content at → IsMisfitOf content place → at ≡ place
misfits_once content at place one other =
    let fields = fields_once (content Master) one.fields other.fields one.read other.read in
    let batches : one.batches ≡ other.batches = log_once (content Log) one.batches other.batches one.has_log other.has_log in
    let there : IsMisfitAt other.fields.pages (acts_of_batches one.batches) at =
    subst (λ (f : Fields). IsMisfitAt f.pages (acts_of_batches one.batches) at) fields one.misfit in
    misfit_once other.fields.pages (acts_of_batches other.batches) at place
    (subst (λ (b : List Batch). IsMisfitAt other.fields.pages (acts_of_batches b) at) batches there) other.misfit

-- a log that a master names a checkpoint in, and one with none
not_named : (content : Image) (at : ℕ) (fields : Fields) → NamesCheckpoint content at → HasFields (content Master) fields → fields.checkpoint ≡ 0 → ⊥
not_named content at fields names read none =
    names.some (checkpoint_once content at 0 (record { fields = names.fields; read = names.read; place = names.place }) (record { fields = fields; read = read; place = sym none }))

log_damage_once : (content : Image) (at place : ℕ) → IsDamage content Log at → IsDamage content Log place → at ≡ place
log_damage_once content at place (inl one) (inl other) =
    checkpoint_once content at place (record { fields = one.fields; read = one.read; place = one.place }) (record { fields = other.fields; read = other.read; place = other.place })
log_damage_once content at place (inl names) (inr (inl damage)) = absurd (not_named content at damage.fields names damage.read damage.checkpoint)
log_damage_once content at place (inl names) (inr (inr misfit)) = absurd (not_named content at misfit.fields names misfit.read misfit.checkpoint)
log_damage_once content at place (inr (inl damage)) (inl names) = absurd (not_named content place damage.fields names damage.read damage.checkpoint)
log_damage_once content at place (inr (inr misfit)) (inl names) = absurd (not_named content place misfit.fields names misfit.read misfit.checkpoint)
log_damage_once content at place (inr (inl one)) (inr (inl other)) = damage_once (content Log) at place one.damage other.damage
log_damage_once content at place (inr (inl damage)) (inr (inr misfit)) = absurd (damaged_has_no_log (content Log) at misfit.batches damage.damage misfit.has_log)
log_damage_once content at place (inr (inr misfit)) (inr (inl damage)) = absurd (damaged_has_no_log (content Log) place misfit.batches damage.damage misfit.has_log)
log_damage_once content at place (inr (inr one)) (inr (inr other)) = misfits_once content at place one other

-- a damaged log has a master with fields
master_of : (content : Image) (at : ℕ) → IsDamage content Log at → (fields : Fields) × HasFields (content Master) fields
master_of content at (inl names) = (names.fields, names.read)
master_of content at (inr (inl damage)) = (damage.fields, damage.read)
master_of content at (inr (inr misfit)) = (misfit.fields, misfit.read)

pub damage_is_one : (content : Image) (area other : Area) (at place : ℕ) → IsDamage content area at → IsDamage content other place → (area ≡ other) × (at ≡ place)
damage_is_one content Master Master at place one two = (refl, one.place ∙ sym two.place)
damage_is_one content Master Log at place one two =
    let found = master_of content place two in absurd (master_not_damaged (content Master) at found.0 one found.1)
damage_is_one content Log Master at place one two =
    let found = master_of content at one in absurd (master_not_damaged (content Master) place found.0 two found.1)
damage_is_one content Log Log at place one two = (refl, log_damage_once content at place one two)
damage_is_one content Data other at place one two = absurd one
damage_is_one content Space other at place one two = absurd one
damage_is_one content Copy other at place one two = absurd one
damage_is_one content Master Data at place one two = absurd two
damage_is_one content Master Space at place one two = absurd two
damage_is_one content Master Copy at place one two = absurd two
damage_is_one content Log Data at place one two = absurd two
damage_is_one content Log Space at place one two = absurd two
damage_is_one content Log Copy at place one two = absurd two
