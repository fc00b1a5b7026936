-- The six parts that every fault tells: what is not told is 0, or '-' for the letter.
use Rattle.std.specs.Prelude.{ℕ, List, ◌++◌, codes, decimal}
use Rattle.std.proofs.Math.Utf8.{encode}
use Rattle.fields.specs.declared.fault.FieldFault.{FieldFault}
use Rattle.fields.specs.declared.fault.FieldFault.TheVariants.{NotOfType, NotAllowed, NotEqual}
use Rattle.fields.specs.declared.parts.Layer.{Layer}
use Rattle.fields.specs.declared.parts.Layer.TheVariants.{Head, Field, Row, Across, Line, Entry, Run, Copy}
use Rattle.fields.specs.declared.parts.Parts.{Parts}

-- the byte '-'
abbrev pub untold : ℕ
untold = 45

abbrev pub layer_name : Layer → List ℕ
layer_name Head = codes "head"
layer_name Field = codes "field"
layer_name Row = codes "row"
layer_name Across = codes "across"
layer_name Line = codes "line"
layer_name Entry = codes "entry"
layer_name Run = codes "run"
layer_name Copy = codes "copy"

-- a fault of which its number and layer are told, and nothing else
abbrev pub untold_parts : ℕ → Layer → Parts
untold_parts n l = record { number = n; layer = l; letter = untold; row = 0; field = 0; «record» = 0 }

-- the six parts as a fault prints them
abbrev pub line : Parts → List ℕ
line p =
    decimal p.number ++ (codes " " ++ (layer_name p.layer ++ (codes " " ++ (encode p.letter
    ++ (codes " row " ++ (decimal p.row ++ (codes " field " ++ (decimal p.field
    ++ (codes " record " ++ decimal p.«record»)))))))))

abbrev pub field_of : FieldFault → ℕ
field_of (NotOfType f) = f
field_of (NotAllowed f) = f
field_of (NotEqual f) = f

abbrev pub field_parts : FieldFault → Parts
field_parts (NotOfType f) = record { number = 4; layer = Field; letter = untold; row = 0; field = f; «record» = 0 }
field_parts (NotAllowed f) = record { number = 5; layer = Field; letter = untold; row = 0; field = f; «record» = 0 }
field_parts (NotEqual f) = record { number = 6; layer = Field; letter = untold; row = 0; field = f; «record» = 0 }
