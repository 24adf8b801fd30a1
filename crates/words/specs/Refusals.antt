-- The number of each refusal: the one place where they are given.
use Rattle.std.specs.Prelude.{ℕ}
use Rattle.words.specs.declared.Refusal.{Refusal}
use Rattle.words.specs.declared.Refusal.TheVariants.{Bytes, Header, Count, Table, Process, Record, Repeat, Chain, Recursion, Depth, Span, DrawingHeader, DrawingCount, DrawingAlphabet, DrawingRow, WrongKind, SourcePresent, TableFull, Oversized, NoEdge, NoBranch, NoItem, ListTooLong, LineTooLong}

abbrev pub number_of : Refusal → ℕ
number_of Bytes = 10
number_of Header = 11
number_of Count = 12
number_of Table = 13
number_of Process = 14
number_of Record = 15
number_of Repeat = 16
number_of Chain = 17
number_of Recursion = 18
number_of Depth = 19
number_of Span = 20
number_of DrawingHeader = 31
number_of DrawingCount = 32
number_of DrawingAlphabet = 33
number_of DrawingRow = 34
number_of WrongKind = 41
number_of SourcePresent = 42
number_of TableFull = 43
number_of Oversized = 61
number_of NoEdge = 62
number_of NoBranch = 63
number_of NoItem = 64
number_of ListTooLong = 71
number_of LineTooLong = 72
