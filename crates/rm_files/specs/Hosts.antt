-- A volume over real files: the record of the calls on them, and how often each area has failed.
use Rattle.std.specs.Prelude.{ℕ, List, [], string_bytes}
use Rattle.rm_types.specs.declared.areas.Area.{Area}
use Rattle.rm_outside.specs.Images.{Image}
use Rattle.rm_outside.specs.Calls.{Facts}
use Rattle.rm_outside.specs.PerArea.{of_area}
use Rattle.rm_calls.specs.declared.calls.Calls as calls
use Rattle.rm_calls.specs.declared.start.Start as start
use Rattle.rm_calls.specs.declared.modelled.Modelled.{Modelled}
use Rattle.rm_calls.specs.Calls.{Call}
use Rattle.rm_calls.specs.Replay.{facts_over}
use Rattle.rm_files.specs.declared.host.Host.{Host}

-- the calls so far with their answers, the newest first
abbrev pub calls_of : {R S : Type 0} {c : calls.Ghosts (Host R)} {s : start.Ghosts S} → Modelled (Host R) S c s → List Call
calls_of volume = volume.calls.noted.calls

-- the path of its folder
abbrev pub folder_of : {R S : Type 0} {c : calls.Ghosts (Host R)} {s : start.Ghosts S} → Modelled (Host R) S c s → List ℕ
folder_of volume = string_bytes volume.calls.files.folder.path

-- how often the area has failed
abbrev pub faults_in : {R S : Type 0} {c : calls.Ghosts (Host R)} {s : start.Ghosts S} → Modelled (Host R) S c s → Area → ℕ
faults_in volume = of_area volume.faults

-- the facts of the volume where the files held `start`
abbrev pub facts_in : {R S : Type 0} {c : calls.Ghosts (Host R)} {s : start.Ghosts S} → Image → Modelled (Host R) S c s → Facts
facts_in start volume = facts_over start (calls_of volume) (faults_in volume) volume.reads.blocks volume.reads.log_bytes

-- before the first call
abbrev pub first_facts : Image → Facts
first_facts start = facts_over start [] (λ _. 0) 0 0
