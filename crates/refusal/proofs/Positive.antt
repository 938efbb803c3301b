-- No cause has the number 0, which stands for granted.
use Prim.Native.Nat.{◌<◌}
use lib.Dec.{lit<}
use Rattle.refusal.specs.Code.{code}
use Rattle.refusal.specs.declared.Refusal.{Refusal}
use Rattle.refusal.specs.declared.Refusal.TheVariants.{ChainCount, Width, Sum, Height, TableTooShort, OutputTooShort, NumberTooLarge, CodewordLength}
use Rattle.refusal.specs.declared.Refusal.TheVariants.{DigitTooLarge, CodewordSum, LeafOutOfRange, KeySpent, SignatureLength, LeafPassed, RootDiffers}
use Rattle.refusal.specs.declared.Refusal.TheVariants.{MessageLength, SheetLine, HashTooLong, CountTooSmall, NoMark, MarkStands, Edition, OrderCount}
use Rattle.refusal.specs.declared.Refusal.TheVariants.{EndPlaces, LeafOrder, SiblingCount, LeafCount, ShareSum, DeskOutOfRange, ShareUsed, PlaceFilled}
use Rattle.refusal.specs.declared.Refusal.TheVariants.{PlaceEmpty, ValueZero}

pub code-positive : (r : Refusal) → 0 < code r
code-positive ChainCount = lit< tt
code-positive Width = lit< tt
code-positive Sum = lit< tt
code-positive Height = lit< tt
code-positive TableTooShort = lit< tt
code-positive OutputTooShort = lit< tt
code-positive NumberTooLarge = lit< tt
code-positive CodewordLength = lit< tt
code-positive DigitTooLarge = lit< tt
code-positive CodewordSum = lit< tt
code-positive LeafOutOfRange = lit< tt
code-positive KeySpent = lit< tt
code-positive SignatureLength = lit< tt
code-positive LeafPassed = lit< tt
code-positive RootDiffers = lit< tt
code-positive MessageLength = lit< tt
code-positive (SheetLine line) = lit< tt
code-positive HashTooLong = lit< tt
code-positive CountTooSmall = lit< tt
code-positive NoMark = lit< tt
code-positive MarkStands = lit< tt
code-positive Edition = lit< tt
code-positive OrderCount = lit< tt
code-positive EndPlaces = lit< tt
code-positive LeafOrder = lit< tt
code-positive SiblingCount = lit< tt
code-positive LeafCount = lit< tt
code-positive ShareSum = lit< tt
code-positive DeskOutOfRange = lit< tt
code-positive ShareUsed = lit< tt
code-positive PlaceFilled = lit< tt
code-positive PlaceEmpty = lit< tt
code-positive ValueZero = lit< tt
