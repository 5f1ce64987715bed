-- The number of each refusal, from the table of 01, 'Why a call is turned down'.
use Rattle.std.specs.Prelude.{ℕ}
use Rattle.pgs_base.specs.declared.refusal.Refusal.{Refusal}
use Rattle.pgs_base.specs.declared.refusal.Refusal.TheVariants.{TruncatedHeader, BadMagic, TruncatedBody, FieldPastEnd}
use Rattle.pgs_base.specs.declared.refusal.Refusal.TheVariants.{PartialPaletteEntry, NonEmptyEnd, ZeroLengthSegment}
use Rattle.pgs_base.specs.declared.refusal.Refusal.TheVariants.{PcsInOpenSet, WdsOutsideSet, PdsOutsideSet}
use Rattle.pgs_base.specs.declared.refusal.Refusal.TheVariants.{OdsOutsideSet, SecondWds, EndOutsideSet}
use Rattle.pgs_base.specs.declared.refusal.Refusal.TheVariants.{UnknownOutsideSet, UnterminatedSet}
use Rattle.pgs_base.specs.declared.refusal.Refusal.TheVariants.{FirstFragmentWhileOpen, DuplicateObject}
use Rattle.pgs_base.specs.declared.refusal.Refusal.TheVariants.{FragmentWithoutFirst, FragmentAfterLast}
use Rattle.pgs_base.specs.declared.refusal.Refusal.TheVariants.{UnterminatedObject, DeclaredLengthTooSmall}
use Rattle.pgs_base.specs.declared.refusal.Refusal.TheVariants.{DeclaredLengthMismatch, TooManyObjects, RunPastWidth}
use Rattle.pgs_base.specs.declared.refusal.Refusal.TheVariants.{TruncatedEscape, TruncatedLongZeroRun}
use Rattle.pgs_base.specs.declared.refusal.Refusal.TheVariants.{TruncatedShortColorRun, TruncatedLongColorRun}
use Rattle.pgs_base.specs.declared.refusal.Refusal.TheVariants.{ShortLine, TooManyLines, PartialLastLine}
use Rattle.pgs_base.specs.declared.refusal.Refusal.TheVariants.{LineCountMismatch, ObjectNotInSet, BufferTooSmall}
use Rattle.pgs_base.specs.declared.refusal.Refusal.TheVariants.{NotEncodable, NoSuchSet}

abbrev pub number_of : Refusal → ℕ
number_of TruncatedHeader = 1
number_of BadMagic = 2
number_of TruncatedBody = 3
number_of FieldPastEnd = 4
number_of PartialPaletteEntry = 5
number_of NonEmptyEnd = 6
number_of ZeroLengthSegment = 7
number_of PcsInOpenSet = 8
number_of WdsOutsideSet = 9
number_of PdsOutsideSet = 10
number_of OdsOutsideSet = 11
number_of SecondWds = 12
number_of EndOutsideSet = 13
number_of UnknownOutsideSet = 14
number_of UnterminatedSet = 15
number_of FirstFragmentWhileOpen = 16
number_of DuplicateObject = 17
number_of FragmentWithoutFirst = 18
number_of FragmentAfterLast = 19
number_of UnterminatedObject = 20
number_of DeclaredLengthTooSmall = 21
number_of DeclaredLengthMismatch = 22
number_of TooManyObjects = 23
number_of RunPastWidth = 24
number_of TruncatedEscape = 25
number_of TruncatedLongZeroRun = 26
number_of TruncatedShortColorRun = 27
number_of TruncatedLongColorRun = 28
number_of ShortLine = 29
number_of TooManyLines = 30
number_of PartialLastLine = 31
number_of LineCountMismatch = 32
number_of ObjectNotInSet = 33
number_of BufferTooSmall = 34
number_of NotEncodable = 35
number_of NoSuchSet = 36
