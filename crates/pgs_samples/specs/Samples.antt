-- The starred samples of 01, 'Bench samples': "Starred ones are the small proved set." One table of questions and answers. What the
-- library's own definitions answer is `answer_of`; that they answer as the table says is proofs/Right.antt.
use Rattle.std.specs.Prelude.{ℕ, ◌+◌, List, [], ◌∷◌, ◌++◌, length}
use Rattle.pgs_base.specs.Outcome.{Outcome, gives, refuses, outcome_of}
use Rattle.pgs_bitmap_check.specs.Bitmap.{reading_of, bitmap_of}
use Rattle.pgs_color.specs.Bytes.{rgb_of}
use Rattle.pgs_color.specs.declared.ycbcr.Rgb8.{Rgb8}
use Rattle.pgs_reassembly.specs.Objects.{Chain, data_of, objects_of, objects_verdict}

pub data Question : Type 0 where
  -- "Bitmaps, width/height": the pixels of these bytes
  bitmap : (width height : ℕ) → List ℕ → Question
  -- the joined data of an object with this declared length and these data bytes
  declared : ℕ → List ℕ → Question
  -- the R, G and B of "Y, Cb, Cr"
  color : (y cb cr : ℕ) → Question

pub record Sample : Type 0 where
  pub question : Question
  pub answer : Outcome (List ℕ)

-- a PCS with no placements
abbrev pub opening : List ℕ
opening =
    0x50 ∷ 0x47 ∷ 0 ∷ 0 ∷ 0 ∷ 0 ∷ 0 ∷ 0 ∷ 0 ∷ 0 ∷ 0x16 ∷ 0 ∷ 11
    ∷ 0x07 ∷ 0x80 ∷ 0x04 ∷ 0x38 ∷ 0x10 ∷ 0 ∷ 0 ∷ 0x80 ∷ 0 ∷ 0 ∷ 0 ∷ []

-- an END
abbrev pub ending : List ℕ
ending = 0x50 ∷ 0x47 ∷ 0 ∷ 0 ∷ 0 ∷ 0 ∷ 0 ∷ 0 ∷ 0 ∷ 0 ∷ 0x80 ∷ 0 ∷ 0 ∷ []

-- an ODS that is the only fragment of its object, with a declared length below 256 and fewer than 245 data bytes
abbrev pub fragment : ℕ → List ℕ → List ℕ
fragment n bytes =
    0x50 ∷ 0x47 ∷ 0 ∷ 0 ∷ 0 ∷ 0 ∷ 0 ∷ 0 ∷ 0 ∷ 0 ∷ 0x15 ∷ 0 ∷ (11 + length bytes)
    ∷ 0 ∷ 0 ∷ 0 ∷ 0xC0 ∷ 0 ∷ 0 ∷ n ∷ 0 ∷ 3 ∷ 0 ∷ 1 ∷ bytes

-- a stream of one display set with one object
abbrev pub stream_with : ℕ → List ℕ → List ℕ
stream_with n bytes = opening ++ (fragment n bytes ++ ending)

-- the data of objects, one after another
abbrev pub all_data : List Chain → List ℕ
all_data [] = []
all_data (c ∷ cs) = data_of c ++ all_data cs

abbrev pub channels : Rgb8 → List ℕ
channels c = c.r ∷ c.g ∷ c.b ∷ []

-- what the definitions answer
abbrev pub answer_of : Question → Outcome (List ℕ)
answer_of (bitmap width height bytes) = outcome_of (reading_of bytes width height).verdict (bitmap_of bytes)
answer_of (declared n bytes) = outcome_of (objects_verdict 0 (stream_with n bytes)) (all_data (objects_of 0 (stream_with n bytes)))
answer_of (color y cb cr) = gives (channels (rgb_of y cb cr))

abbrev pub says : Question → Outcome (List ℕ) → Sample
says q a = record { question = q; answer = a }

-- the table, in the order of 01
abbrev pub starred : List Sample
starred =
    says (bitmap 3 1 (1 ∷ 2 ∷ 3 ∷ [])) (gives (1 ∷ 2 ∷ 3 ∷ []))
    ∷ says (bitmap 3 1 (1 ∷ 2 ∷ 3 ∷ 0 ∷ 0 ∷ [])) (gives (1 ∷ 2 ∷ 3 ∷ []))
    ∷ says (bitmap 3 1 (0 ∷ 0xC0 ∷ 3 ∷ 9 ∷ [])) (gives (9 ∷ 9 ∷ 9 ∷ []))
    ∷ says (bitmap 2 1 (0 ∷ 0x40 ∷ 0 ∷ 0 ∷ 0x82 ∷ 7 ∷ [])) (gives (7 ∷ 7 ∷ []))
    ∷ says (bitmap 0 2 (0 ∷ 0 ∷ 0 ∷ 0 ∷ [])) (gives [])
    ∷ says (bitmap 0 1 []) (refuses 32)
    ∷ says (bitmap 2 1 (5 ∷ [])) (refuses 31)
    ∷ says (bitmap 2 1 (5 ∷ 5 ∷ 5 ∷ [])) (refuses 24)
    ∷ says (bitmap 2 1 (0 ∷ 0 ∷ [])) (refuses 29)
    ∷ says (bitmap 2 1 (5 ∷ 5 ∷ 0 ∷ [])) (refuses 25)
    ∷ says (bitmap 2 1 (5 ∷ 5 ∷ 0 ∷ 0 ∷ 6 ∷ 6 ∷ [])) (refuses 32)
    ∷ says (bitmap 2 1 (5 ∷ 5 ∷ 0 ∷ 0 ∷ 6 ∷ 6 ∷ 0 ∷ 0 ∷ [])) (refuses 30)
    ∷ says (declared 3 (1 ∷ 2 ∷ 3 ∷ [])) (refuses 21)
    ∷ says (declared 7 (1 ∷ 2 ∷ 3 ∷ [])) (gives (1 ∷ 2 ∷ 3 ∷ []))
    ∷ says (color 16 128 128) (gives (0 ∷ 0 ∷ 0 ∷ []))
    ∷ says (color 81 90 240) (gives (255 ∷ 24 ∷ 0 ∷ []))
    ∷ []
