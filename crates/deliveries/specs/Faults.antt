-- The parts that a delivery's fault tells.
use Rattle.fields.specs.declared.parts.Layer.TheVariants.{Across, Head}
use Rattle.fields.specs.declared.parts.Parts.{Parts}
use Rattle.fields.specs.Faults.{untold}
use Rattle.files.specs.Faults.{row_parts}
use Rattle.deliveries.specs.declared.fault.AcrossFault.TheVariants.{NoStation, OtherDesignation}
use Rattle.deliveries.specs.declared.fault.DeliveryFault.{DeliveryFault}
use Rattle.deliveries.specs.declared.fault.DeliveryFault.TheVariants as fault
use Rattle.deliveries.specs.declared.fault.HeadFault.{HeadFault}
use Rattle.deliveries.specs.declared.fault.HeadFault.TheVariants.{Short, BrokenField, WrongSize}

abbrev pub head_parts : HeadFault → Parts
head_parts Short = record { number = 1; layer = Head; letter = untold; row = 0; field = 0; «record» = 0 }
head_parts (BrokenField f) = record { number = 2; layer = Head; letter = untold; row = 0; field = f; «record» = 0 }
head_parts WrongSize = record { number = 3; layer = Head; letter = untold; row = 0; field = 2; «record» = 0 }

abbrev pub delivery_parts : DeliveryFault → Parts
delivery_parts (fault.Head e) = head_parts e
delivery_parts (fault.Row letter e) = row_parts letter e.row e.fault
delivery_parts (fault.Across row (NoStation f n)) =
    record { number = 9; layer = Across; letter = 83; row = row; field = f; «record» = n }
delivery_parts (fault.Across row (OtherDesignation f n)) =
    record { number = 10; layer = Across; letter = 83; row = row; field = f; «record» = n }
