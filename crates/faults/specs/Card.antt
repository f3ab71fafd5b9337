-- The card of faults: what each fault's number is, which layer it belongs to, and what it names. Assumes nothing.
use Rattle.std.specs.Prelude.{ℕ}
use Rattle.faults.specs.declared.Layer.{Layer}
use Rattle.faults.specs.declared.Layer.TheVariants.{Text, Model, Shelf, Reader, Book, Cue}
use Rattle.faults.specs.declared.Values.{Values}
use Rattle.faults.specs.declared.Values.TheVariants.{One, Two}
use Rattle.faults.specs.declared.Fault.{Fault}
use Rattle.faults.specs.declared.Fault.TheVariants.{StrangeByte, Unexpected, LongName, TooDeep, TooLarge, Malformed, Ambiguous, NoPlace, Taken, Vacant, ShortList, Unfit, WrongBook, Unwritable, WrongCue}

-- the number of a fault, from 1 to 15
abbrev pub number : Fault → ℕ
number (StrangeByte at) = 1
number (Unexpected at) = 2
number (LongName at) = 3
number (TooDeep at) = 4
number (TooLarge l limit) = 5
number (Malformed at) = 6
number (Ambiguous x y) = 7
number (NoPlace p) = 8
number (Taken p) = 9
number (Vacant p) = 10
number (ShortList l cells) = 11
number (Unfit n) = 12
number (WrongBook entry) = 13
number (Unwritable index) = 14
number (WrongCue byte) = 15

-- the layer of a fault: where a number has several, the fault carries it
abbrev pub layer : Fault → Layer
layer (StrangeByte at) = Text
layer (Unexpected at) = Text
layer (LongName at) = Text
layer (TooDeep at) = Text
layer (TooLarge l limit) = l
layer (Malformed at) = Model
layer (Ambiguous x y) = Model
layer (NoPlace p) = Shelf
layer (Taken p) = Shelf
layer (Vacant p) = Shelf
layer (ShortList l cells) = l
layer (Unfit n) = Reader
layer (WrongBook entry) = Book
layer (Unwritable index) = Text
layer (WrongCue byte) = Cue

-- what a fault names
abbrev pub values : Fault → Values
values (StrangeByte at) = One at
values (Unexpected at) = One at
values (LongName at) = One at
values (TooDeep at) = One at
values (TooLarge l limit) = One limit
values (Malformed at) = One at
values (Ambiguous x y) = Two x y
values (NoPlace p) = One p
values (Taken p) = One p
values (Vacant p) = One p
values (ShortList l cells) = One cells
values (Unfit n) = One n
values (WrongBook entry) = One entry
values (Unwritable index) = One index
values (WrongCue byte) = One byte
