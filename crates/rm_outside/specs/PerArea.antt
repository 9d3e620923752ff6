-- One value for each area.
use Rattle.rm_types.specs.declared.areas.Area.{Area}
use Rattle.rm_types.specs.declared.areas.Area.TheVariants.{Master, Log, Data, Space, Copy}
use Rattle.rm_outside.specs.declared.areas.PerArea.{PerArea}

-- the value of that area
abbrev pub of_area : {T : Type 0} → PerArea T → Area → T
of_area all Master = all.master
of_area all Log = all.log
of_area all Data = all.data
of_area all Space = all.space
of_area all Copy = all.copy
