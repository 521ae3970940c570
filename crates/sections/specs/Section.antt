-- A section: a count, and behind it as many bytes for each thing that is counted. "Files are judged in file order: a section's count present (1), count
-- right (3, 4, 5), section present (1), then contents."
use Rattle.std.specs.Prelude.{◌≡◌, cond, Result, Ok, Err, List, ◌++◌, ℕ, ◌+◌, ◌*◌, ◌≤◌, ◌<◌, ltb, length, take, drop}
use Rattle.whole.specs.Refusal.{unless_refused}
use Rattle.sections.specs.Bytes.{two_bytes, count_of, Bytes}

-- ---- before its contents

-- the count is right from `least` to `most`, and refused by the number `wrong` else; each thing that is counted has `unit` bytes
pub record Limits : Type 0 where
  pub least : ℕ
  pub most : ℕ
  pub wrong : ℕ
  pub unit : ℕ

-- the bytes from its count on, and the most that there can be
abbrev pub size_of : Limits → List ℕ → ℕ
size_of l bytes = 2 + l.unit * count_of bytes

abbrev pub limit : Limits → ℕ
limit l = 2 + l.unit * l.most

-- "a section's count present (1), count right (3, 4, 5), section present (1)": the number, or 0
unfoldable pub presence : Limits → List ℕ → ℕ
presence l bytes =
    cond (ltb (length bytes) 2) 1
    (cond (ltb (count_of bytes) l.least) l.wrong
    (cond (ltb l.most (count_of bytes)) l.wrong
    (cond (ltb (length bytes) (size_of l bytes)) 1 0)))

-- the count, or what is answered of a section that is cut off, in the place of 1, and of a count that is wrong, in the place of `wrong`
unfoldable pub count_or : {R : Type 0} → R → R → (least most unit : ℕ) → List ℕ → Result ℕ R
count_or cut_off wrong least most unit bytes =
    cond (ltb (length bytes) 2) (Err cut_off)
    (cond (ltb (count_of bytes) least) (Err wrong)
    (cond (ltb most (count_of bytes)) (Err wrong)
    (cond (ltb (length bytes) (2 + unit * count_of bytes)) (Err cut_off) (Ok (count_of bytes)))))

-- when bytes are no whole section, and by which number they are refused
pub data Absent (l : Limits) (bytes : List ℕ) : ℕ → Type 0 where
  no_count : length bytes < 2 → Absent l bytes 1
  too_few : 2 ≤ length bytes → count_of bytes < l.least → Absent l bytes l.wrong
  too_many : 2 ≤ length bytes → l.most < count_of bytes → Absent l bytes l.wrong
  cut_off : 2 ≤ length bytes → l.least ≤ count_of bytes → count_of bytes ≤ l.most → length bytes < size_of l bytes → Absent l bytes 1

-- and when they are
pub record Present (l : Limits) (bytes : List ℕ) : Type 0 where
  pub some : l.least ≤ count_of bytes
  pub few : count_of bytes ≤ l.most
  pub fits : size_of l bytes ≤ length bytes

-- ---- with its contents

pub record Section (A : Type 0) : Type 1 where
  pub limits : Limits
  -- the count of a value, and the bytes behind it
  pub count : A → ℕ
  pub body : A → List ℕ
  -- a value that bytes can say
  pub Sayable : A → Type 0
  -- when a number is given of a value: 0 where it keeps the rules
  pub Gives : A → ℕ → Type 0
  -- as a computation: the value that a count and the bytes behind it say, and the number that is given of it
  pub value : ℕ → List ℕ → A
  pub number : A → ℕ

module _ {A : Type 0} (s : Section A) where
  -- "each after its count"
  abbrev pub bytes_of : A → List ℕ
  bytes_of v = two_bytes (s.count v) ++ s.body v

  pub record Rules (v : A) : Type 0 where
    pub sayable : s.Sayable v
    pub kept : s.Gives v 0

  -- bytes that begin with no section that keeps the rules, and by which number they are refused
  pub data Breaks (bytes : List ℕ) : ℕ → Type 0 where
    absent : {number : ℕ} → Absent s.limits bytes number → Breaks bytes number
    broken : {v : A} {number : ℕ} (more : List ℕ) → bytes ≡ bytes_of v ++ more → s.Sayable v → s.Gives v number → 1 ≤ number → Breaks bytes number

  -- as a computation
  abbrev pub value_of : List ℕ → A
  value_of bytes = s.value (count_of bytes) (take (s.limits.unit * count_of bytes) (drop 2 bytes))

  unfoldable pub number_of : List ℕ → ℕ
  number_of bytes = unless_refused (presence s.limits bytes) (λ number. number) (s.number (value_of bytes))

  -- what is to hold of a section, so that the computation says what the words say (proofs/Sections.antt)
  pub record Whole (n : ℕ) (body : List ℕ) : Type 0 where
    pub some : s.limits.least ≤ n
    pub few : n ≤ s.limits.most
    pub size : length body ≡ s.limits.unit * n

  pub record Lawful : Type 0 where
    pub refused : 1 ≤ s.limits.wrong
    pub says : (n : ℕ) (body : List ℕ) → Bytes body → Whole n body → s.Sayable (s.value n body) × (bytes_of (s.value n body) ≡ two_bytes n ++ body)
    pub said : (v : A) → s.Sayable v → Whole (s.count v) (s.body v) × (s.value (s.count v) (s.body v) ≡ v)
    pub gives : (v : A) → s.Sayable v → s.Gives v (s.number v)
    pub given : (v : A) (number : ℕ) → s.Sayable v → s.Gives v number → s.number v ≡ number

-- ---- a value by itself, before it is written: the reader's numbers for it, "count right (3, 4, 5) .. then contents"

-- "count right (3, 4, 5)": what comes next, or the number of a wrong count
abbrev pub count_right : Limits → ℕ → ℕ → ℕ
count_right l count next = cond (ltb count l.least) l.wrong (cond (ltb l.most count) l.wrong next)

module _ {A : Type 0} (s : Section A) where
  pub record Counted (v : A) : Type 0 where
    pub some : s.limits.least ≤ s.count v
    pub few : s.count v ≤ s.limits.most

  pub record Writable (v : A) : Type 0 where
    pub counted : Counted v
    pub kept : s.Gives v 0

  pub data Unwritable (v : A) : ℕ → Type 0 where
    count_low : s.count v < s.limits.least → Unwritable v s.limits.wrong
    count_high : s.limits.most < s.count v → Unwritable v s.limits.wrong
    contents : {number : ℕ} → Counted v → s.Gives v number → 1 ≤ number → Unwritable v number

  -- as a computation
  unfoldable pub judged : A → ℕ
  judged v = count_right s.limits (s.count v) (s.number v)

  -- what is written of v is read as w: bytes can say w, which has the same bytes and the same number
  pub record Told (v w : A) : Type 0 where
    pub sayable : s.Sayable w
    pub bytes : bytes_of s v ≡ bytes_of s w
    pub number : s.number v ≡ s.number w

  -- what is to hold besides of a section that is written: its number is given of every value, whether bytes can say it or not (proofs/Judged.antt)
  pub record Judges : Type 0 where
    pub gives : (v : A) → s.Gives v (s.number v)
    pub given : (v : A) (number : ℕ) → s.Gives v number → s.number v ≡ number
