-- The parts that a book's fault tells: 11 to 13 none but their number and layer, 18 its letter.
use Rattle.fields.specs.declared.parts.Layer.TheVariants as layer
use Rattle.fields.specs.declared.parts.Parts.{Parts}
use Rattle.fields.specs.Faults.{untold}
use Rattle.registers.specs.Faults.{register_parts}
use Rattle.books.specs.declared.fault.BookFault.{BookFault}
use Rattle.books.specs.declared.fault.BookFault.TheVariants as fault
use Rattle.books.specs.declared.fault.LineFault.{LineFault}
use Rattle.books.specs.declared.fault.LineFault.TheVariants.{TooManySuppliers, DoesNotFollow, NoReceiptLeft}

abbrev pub line_parts : LineFault → Parts
line_parts TooManySuppliers = record { number = 11; layer = layer.Line; letter = untold; row = 0; field = 0; «record» = 0 }
line_parts DoesNotFollow = record { number = 12; layer = layer.Line; letter = untold; row = 0; field = 0; «record» = 0 }
line_parts NoReceiptLeft = record { number = 13; layer = layer.Line; letter = untold; row = 0; field = 0; «record» = 0 }

abbrev pub book_parts : BookFault → Parts
book_parts (fault.Line e) = line_parts e
book_parts (fault.Entry letter e) = register_parts letter e
book_parts (fault.Full letter) = record { number = 18; layer = layer.Run; letter = letter; row = 0; field = 0; «record» = 0 }
