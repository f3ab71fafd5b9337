-- How a fault is printed: its layer, its number and what it names, as `text 2 at 11` or `model 7 at 1 and 2`. Assumes nothing.
use Rattle.std.specs.Prelude.{ℕ, List, ◌++◌, codes, decimal}
use Rattle.faults.specs.Card.{number, layer, values}
use Rattle.faults.specs.declared.Layer.{Layer}
use Rattle.faults.specs.declared.Layer.TheVariants.{Text, Model, Shelf, Compare, Line, Reader, Book, Cue}
use Rattle.faults.specs.declared.Values.{Values}
use Rattle.faults.specs.declared.Values.TheVariants.{One, Two}
use Rattle.faults.specs.declared.Fault.{Fault}

abbrev pub layer_shown : Layer → List ℕ
layer_shown Text = codes "text"
layer_shown Model = codes "model"
layer_shown Shelf = codes "shelf"
layer_shown Compare = codes "compare"
layer_shown Line = codes "line"
layer_shown Reader = codes "reader"
layer_shown Book = codes "book"
layer_shown Cue = codes "cue"

abbrev pub values_shown : Values → List ℕ
values_shown (One n) = decimal n
values_shown (Two m n) = decimal m ++ (codes " and " ++ decimal n)

-- without the layer, as `13 at 0`
abbrev pub numbered_shown : Fault → List ℕ
numbered_shown f = decimal (number f) ++ (codes " at " ++ values_shown (values f))

abbrev pub fault_shown : Fault → List ℕ
fault_shown f = layer_shown (layer f) ++ (codes " " ++ numbered_shown f)
