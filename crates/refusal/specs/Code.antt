-- The codes of the causes of document 01, "Operations and their refusals", and of document 02; those from 23 on are of points still to
-- come.
use Rattle.std.specs.Prelude.{Bool, cond, List, [], ◌∷◌, ℕ, Result, Ok, Err}
use Rattle.refusal.specs.declared.Refusal.{Refusal}
use Rattle.refusal.specs.declared.Refusal.TheVariants.{ChainCount, Width, Sum, Height, TableTooShort, OutputTooShort, NumberTooLarge}
use Rattle.refusal.specs.declared.Refusal.TheVariants.{CodewordLength, DigitTooLarge, CodewordSum, LeafOutOfRange, KeySpent}
use Rattle.refusal.specs.declared.Refusal.TheVariants.{SignatureLength, LeafPassed, RootDiffers, MessageLength, SheetLine}
use Rattle.refusal.specs.declared.Refusal.TheVariants.{HashTooLong, CountTooSmall, NoMark, MarkStands, Edition, OrderCount}
use Rattle.refusal.specs.declared.Refusal.TheVariants.{EndPlaces, LeafOrder, SiblingCount, LeafCount, ShareSum, DeskOutOfRange}
use Rattle.refusal.specs.declared.Refusal.TheVariants.{ShareUsed, PlaceFilled, PlaceEmpty, ValueZero}

-- the number of each cause
abbrev pub code : Refusal → ℕ
-- "1 l, 2 w, 3 s, 4 h outside its range"
code ChainCount = 1
code Width = 2
code Sum = 3
code Height = 4
-- "5 work slice under 5 × (l + 1) × (s + 1) words"
code TableTooShort = 5
-- "6 output under l bytes", and under the bytes that each other operation names
code OutputTooShort = 6
-- "7 number not below the count"
code NumberTooLarge = 7
-- "8 the row hasn't l bytes"
code CodewordLength = 8
-- "9 a length above w − 1"
code DigitTooLarge = 9
-- "10 sum other than s"
code CodewordSum = 10
-- "11, leaf not below 2^h"
code LeafOutOfRange = 11
-- "12 next leaf not below 2^h"
code KeySpent = 12
-- "13 values not 16 × l bytes", "13 signature not 20 + 16 × l + 16 × h bytes"
code SignatureLength = 13
-- document 02, point 4: "14 now means a leaf 32 or more below the highest, or one already accepted"
code LeafPassed = 14
-- "15 recovered root differs"
code RootDiffers = 15
-- "16 order text empty or over 200 bytes"
code MessageLength = 16
-- "17 with the number, from 1, of the first line that is wrong"
code (SheetLine line) = 17
-- "18, if the total with the new bytes is over 65,535"
code HashTooLong = 18
-- document 02, point 3: "19 when the count is below 256"
code CountTooSmall = 19
-- document 02, point 5: "20 when sign finds no mark", "21 when reserve finds a mark"
code NoMark = 20
code MarkStands = 21
-- document 02, point 6: "22 when the edition is neither" 1 nor 2
code Edition = 22
-- document 02, point 7: "23 when the number of orders is 0 or above 64"
code OrderCount = 23
-- "24 when the end places fall, pass the text, or the last isn't its end"
code EndPlaces = 24
-- document 02, point 8: "25 when leaves don't strictly ascend"
code LeafOrder = 25
-- "26 when the siblings are not exactly as many as needed"
code SiblingCount = 26
-- document 02, point 9: "27 when k is 0, above 64 or above 2^h"
code LeafCount = 27
-- document 02, point 10: "28 when the shares together pass 2^h"
code ShareSum = 28
-- "29 when the desk is not 0 to 3"
code DeskOutOfRange = 29
-- "30 when share and common part are both used up"
code ShareUsed = 30
-- document 02, point 12: "31 when adding to a filled place"
code PlaceFilled = 31
-- "32 when removing from an empty one"
code PlaceEmpty = 32
-- "33 when the value to add is all zero"
code ValueZero = 33

-- 0 for granted, else the code of the cause
abbrev pub outcome_code : {A : Type 0} → Result A Refusal → ℕ
outcome_code (Ok value) = 0
outcome_code (Err r) = code r

-- "with the number, from 1, of the first line that is wrong": 0 where the cause is another
abbrev pub wrong_line_of : Refusal → ℕ
wrong_line_of (SheetLine line) = line
wrong_line_of _ = 0

-- and 0 where the call is granted
abbrev pub line_told : {A : Type 0} → Result A Refusal → ℕ
line_told (Ok value) = 0
line_told (Err r) = wrong_line_of r

-- "refused exactly for the causes …, the first in its order giving the number": of causes in order, each a test with its code, the code of
-- the first that holds, or 0
abbrev pub first_cause : List (Bool × ℕ) → ℕ
first_cause [] = 0
first_cause (cause ∷ more) = cond cause.0 cause.1 (first_cause more)
