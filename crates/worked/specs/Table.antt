-- Document 01, "Runs and tests to hold it against": P1 to P12, its two runs of D to R, and the two identity digits, which document 02 refuses with the plain
-- binary system. Every number here is the documents'; where they leave one out (the matrix of P7 and P12, the room of every run but P5) it is that of the job
-- of P4, whose room is the program's. The rows on a hundred zeros are our own, and so are those on the list of document 02's T-02.
use Rattle.std.specs.Prelude.{List, [], ◌∷◌, ◌++◌, ℕ, zero, suc, ◌+◌, length, take, ℤ, pos}
use Rattle.digits.specs.BuiltIn.{minus, row, rows_r, rows_b, rows_d}
use Rattle.admission.specs.Named.{identities, plain_binary}
use Rattle.states.specs.Types.{Held, None, Some}
use Rattle.worked.specs.Claims.{Job, Ending, Claim, included, ends_only, opening, judged, rated, ended, cancelled, prints}

-- four numbers: a matrix a b c d, or an interval x0 x1 y0 y1
abbrev pub four : ℤ → ℤ → ℤ → ℤ → List ℤ
four a b c d = a ∷ b ∷ c ∷ d ∷ []

-- a job with a list of so many places, and one whose list can't fill
abbrev pub listing : ℕ → List (List ℤ) → List (List ℤ) → List ℤ → List ℕ → ℕ → Job
listing list input output matrix word room = record { input = input; output = output; matrix = matrix; word = word; room = room; list = list }

abbrev pub job : List (List ℤ) → List (List ℤ) → List ℤ → List ℕ → ℕ → Job
job input output matrix word room = listing (length word + room) input output matrix word room

abbrev pub ends : ℕ → ℕ → List ℕ → List ℤ → Held → Ending
ends number taken digits matrix held = record { number = number; taken = taken; digits = digits; matrix = matrix; held = held }

-- the word 2 0 2 0 .., of twice as many digits
abbrev pub endless : ℕ → List ℕ
endless zero = []
endless (suc n) = 2 ∷ 0 ∷ endless n

-- R, and a digit that stands for a hundred digits 0
abbrev pub hundred_zeros : List (List ℤ)
hundred_zeros = rows_r ++ (row (pos 1) (pos 0) (pos 100) (pos 1) (pos 0) (pos 1) (pos 1) (pos 100) ∷ [])

abbrev pub table : List Claim
table =
    -- "P1 (1, infinity) is included in itself."
    included (four (pos 1) (pos 1) (pos 1) (pos 0)) (four (pos 1) (pos 1) (pos 1) (pos 0)) ∷
    -- "P2 (2, 1) through infinity isn't in (0, 3), though both ends lie there."
    ends_only (four (pos 2) (pos 1) (minus 1) (minus 1)) (four (pos 0) (pos 1) (pos 3) (pos 1)) ∷
    -- "P3 (3, 0) isn't in (0, 3)."
    ends_only (four (pos 3) (pos 1) (pos 0) (minus 1)) (four (pos 0) (pos 1) (pos 3) (pos 1)) ∷
    -- "P4 the job above": R to R, matrix 2 1 1 2, word 0 0 1, with the program's room
    ended (job rows_r rows_r (four (pos 2) (pos 1) (pos 1) (pos 2)) (0 ∷ 0 ∷ 1 ∷ []) 8192)
    (ends 0 3 (0 ∷ 1 ∷ 1 ∷ []) (four (pos 2) (pos 1) (pos 1) (pos 2)) None) ∷
    -- "Input R, output R, matrix 2 1 1 2, word 0 0 1 (147 bytes) prints": the three lines
    prints (job rows_r rows_r (four (pos 2) (pos 1) (pos 1) (pos 2)) (0 ∷ 0 ∷ 1 ∷ []) 8192) 147 "0 3 3\n2 1 1 2 -\n0 1 1\n" ∷
    -- "P5 the same with room 2: end 20, taken 3, written 0 1, X 3 0 1 1, held 1."
    ended (job rows_r rows_r (four (pos 2) (pos 1) (pos 1) (pos 2)) (0 ∷ 0 ∷ 1 ∷ []) 2)
    (ends 20 3 (0 ∷ 1 ∷ []) (four (pos 3) (pos 0) (pos 1) (pos 1)) (Some 1)) ∷
    -- "P6 B to B, M 1 0 0 1, word 1: output 1, X back at 1 0 0 1 after a 2 is cancelled."
    ended (job rows_b rows_b (four (pos 1) (pos 0) (pos 0) (pos 1)) (1 ∷ []) 8192)
    (ends 0 1 (1 ∷ []) (four (pos 1) (pos 0) (pos 0) (pos 1)) None) ∷
    -- T-02: the step that gave the 1 out was cancelled by 1, and the one that absorbed the 1 by the 2; the one that took it in lists nothing
    cancelled (job rows_b rows_b (four (pos 1) (pos 0) (pos 0) (pos 1)) (1 ∷ []) 8192) (1 ∷ 2 ∷ []) ∷
    cancelled (job rows_r rows_r (four (pos 2) (pos 1) (pos 1) (pos 2)) (0 ∷ 0 ∷ 1 ∷ []) 8192) (1 ∷ 1 ∷ 1 ∷ 1 ∷ 1 ∷ 1 ∷ []) ∷
    -- T-02, "15, the list is full, in steps 4 and 5": P6 with a list of one place stops before it absorbs, and with none before it gives out
    ended (listing 1 rows_b rows_b (four (pos 1) (pos 0) (pos 0) (pos 1)) (1 ∷ []) 8192)
    (ends 15 1 (1 ∷ []) (four (pos 2) (minus 1) (pos 0) (pos 1)) (Some 1)) ∷
    cancelled (listing 1 rows_b rows_b (four (pos 1) (pos 0) (pos 0) (pos 1)) (1 ∷ []) 8192) (1 ∷ []) ∷
    ended (listing 0 rows_b rows_b (four (pos 1) (pos 0) (pos 0) (pos 1)) (1 ∷ []) 8192)
    (ends 15 1 [] (four (pos 1) (pos 0) (pos 0) (pos 1)) (Some 1)) ∷
    -- "after 20": with neither room nor list
    ended (listing 0 rows_b rows_b (four (pos 1) (pos 0) (pos 0) (pos 1)) (1 ∷ []) 0)
    (ends 20 1 [] (four (pos 1) (pos 0) (pos 0) (pos 1)) (Some 1)) ∷
    -- "P7 R to R, first byte 4: end 21, counts 0 and 0."
    ended (job rows_r rows_r (four (pos 2) (pos 1) (pos 1) (pos 2)) (4 ∷ 0 ∷ []) 8192)
    (ends 21 0 [] (four (pos 2) (pos 1) (pos 1) (pos 2)) None) ∷
    -- "P8 M 2 0 0 2 opens as 1 0 0 1."
    opening (four (pos 2) (pos 0) (pos 0) (pos 2)) 0 (four (pos 1) (pos 0) (pos 0) (pos 1)) ∷
    -- "P9 M 1 2 2 1 (det −3) and 1 1 1 1 (det 0): 11."
    opening (four (pos 1) (pos 2) (pos 2) (pos 1)) 11 (four (pos 0) (pos 0) (pos 0) (pos 0)) ∷
    opening (four (pos 1) (pos 1) (pos 1) (pos 1)) 11 (four (pos 0) (pos 0) (pos 0) (pos 0)) ∷
    -- "P10 M 1000 0 0 1 opens; with 1001: 6."
    opening (four (pos 1000) (pos 0) (pos 0) (pos 1)) 0 (four (pos 1000) (pos 0) (pos 0) (pos 1)) ∷
    opening (four (pos 1001) (pos 0) (pos 0) (pos 1)) 6 (four (pos 0) (pos 0) (pos 0) (pos 0)) ∷
    -- "P11 R without row 3: 10."
    judged (take 3 rows_r) 10 ∷
    -- "P12 an empty word: end 0."
    ended (job rows_r rows_r (four (pos 2) (pos 1) (pos 1) (pos 2)) [] 8192)
    (ends 0 0 [] (four (pos 2) (pos 1) (pos 1) (pos 2)) None) ∷
    -- "D to R, M 3 −1 0 1, word 2 0 2 0 .. of 40 digits (it names 1/3): end 22, taken 30, written none, X 3 1 0 536870912, held 0."
    ended (job rows_d rows_r (four (pos 3) (minus 1) (pos 0) (pos 1)) (endless 20) 8192)
    (ends 22 30 [] (four (pos 3) (pos 1) (pos 0) (pos 536870912)) (Some 0)) ∷
    -- T-02, "before 22": the same with a list that the 29 digits absorbed have filled; with one place more it ends 22
    ended (listing 29 rows_d rows_r (four (pos 3) (minus 1) (pos 0) (pos 1)) (endless 20) 8192)
    (ends 15 30 [] (four (pos 3) (pos 1) (pos 0) (pos 536870912)) (Some 0)) ∷
    ended (listing 30 rows_d rows_r (four (pos 3) (minus 1) (pos 0) (pos 1)) (endless 20) 8192)
    (ends 22 30 [] (four (pos 3) (pos 1) (pos 0) (pos 536870912)) (Some 0)) ∷
    -- "Of 29 digits: end 0, same X, nothing held."
    ended (job rows_d rows_r (four (pos 3) (minus 1) (pos 0) (pos 1)) (take 29 (endless 15)) 8192)
    (ends 0 29 [] (four (pos 3) (pos 1) (pos 0) (pos 536870912)) None) ∷
    -- the two identity digits: "Document 01's last run becomes a refusal", as a system, as a file, and "also in runs"
    judged identities 18 ∷
    prints (job identities identities (four (pos 1) (pos 0) (pos 0) (pos 1)) (0 ∷ []) 8192) 81 "refused 18 0\n" ∷
    ended (job identities identities (four (pos 1) (pos 0) (pos 0) (pos 1)) (0 ∷ []) 0)
    (ends 18 0 [] (four (pos 1) (pos 0) (pos 0) (pos 1)) None) ∷
    ended (job identities identities (four (pos 1) (pos 0) (pos 0) (pos 1)) (0 ∷ []) 1)
    (ends 18 0 [] (four (pos 1) (pos 0) (pos 0) (pos 1)) None) ∷
    ended (job identities identities (four (pos 1) (pos 0) (pos 0) (pos 1)) (0 ∷ []) 5)
    (ends 18 0 [] (four (pos 1) (pos 0) (pos 0) (pos 1)) None) ∷
    -- "Document 004's plain binary system, with 2x on (1, −1), is now refused: at 5/4 the rate is 82/89."
    judged plain_binary 18 ∷
    rated plain_binary 2 (record { z0 = pos 5; z1 = pos 4 }) 82 89 ∷
    -- a room that one digit fills with 0, and ends 20: what the identity digits did
    judged hundred_zeros 0 ∷
    ended (job hundred_zeros rows_r (four (pos 1) (pos 0) (pos 0) (pos 1)) (4 ∷ []) 0)
    (ends 20 1 [] (four (pos 1) (pos 0) (pos 0) (pos 1)) (Some 4)) ∷
    ended (job hundred_zeros rows_r (four (pos 1) (pos 0) (pos 0) (pos 1)) (4 ∷ []) 1)
    (ends 20 1 (0 ∷ []) (four (pos 1) (pos 0) (minus 1) (pos 1)) (Some 4)) ∷
    ended (job hundred_zeros rows_r (four (pos 1) (pos 0) (pos 0) (pos 1)) (4 ∷ []) 5)
    (ends 20 1 (0 ∷ 0 ∷ 0 ∷ 0 ∷ 0 ∷ []) (four (pos 1) (pos 0) (minus 5) (pos 1)) (Some 4)) ∷ []
