-- The rows of bytes are those of their parts.
use Rattle.std.proofs.Common.{◌≡◌, ◌≢◌, ◌∙◌, refl, sym, ap, ap₂, ℕ, ◌==◌, ◌||◌, Bool, true, false, if◌then◌else◌, List, [], ◌∷◌, ◌++◌, append_assoc, inl, inr}
use Rattle.std.specs.Prelude.{◌⊎◌}
use Rattle.std.proofs.lemmas.List.{append-nil}
use Rattle.std.specs.List.{All, concat, flat_map}
use Rattle.std.proofs.lemmas.Bool.{cases_Bool, eqb-true}
use Rattle.std.proofs.lemmas.List.Elements.{All-head, All-tail}
use Rattle.csv.specs.Machine.{ends_at_end, field_after, in_field, start_field, start_record, step}
use Rattle.csv.specs.Reading.{default_config, strip_bom}
use Rattle.csv.specs.declared.parser.State.{State}
use Rattle.csv.specs.declared.parser.State.TheVariants as st
use Rattle.csv.specs.declared.parser.Action.{Action}
use Rattle.csv.specs.declared.parser.Action.TheVariants as act
use Rattle.sym_rows.specs.Rows.{BeginsLine, EndsBetween, EndsInQuotes, EndsOutside, HasNoQuote, IsOutside, IsPiece, Row, is_line_end, rows_of, state_after}
use Rattle.sym_rows.proofs.OnePass.{emitted, kept, pass, one_pass}

-- Between rows no field is begun.
abbrev pub IsFresh : State → List (List ℕ) → List ℕ → Type 0
IsFresh st.StartRecord fields field = (fields ≡ []) × (field ≡ [])
IsFresh st.AfterCr fields field = (fields ≡ []) × (field ≡ [])
IsFresh st.InComment fields field = (fields ≡ []) × (field ≡ [])
IsFresh st.StartField fields field = Unit {0}
IsFresh st.InField fields field = Unit {0}
IsFresh st.InQuoted fields field = Unit {0}
IsFresh st.AfterQuote fields field = Unit {0}
IsFresh st.InEscape fields field = Unit {0}

-- What a step's state and action leave.
abbrev pub Leaves : State × Action → ℕ → List (List ℕ) → List ℕ → Type 0
Leaves r c fields field = IsFresh r.0 (kept r.1 fields field) (field_after r.1 c field)

field_leaves : (comma end cr : Bool) (c : ℕ) (fields : List (List ℕ)) (field : List ℕ)
    → Leaves (if comma then (st.StartField, act.EndField) else if end then (if cr then st.AfterCr else st.StartRecord, act.EndRecord) else (st.InField, act.Copy)) c fields field
field_leaves true end cr c fields field = tt
field_leaves false true true c fields field = (refl, refl)
field_leaves false true false c fields field = (refl, refl)
field_leaves false false cr c fields field = tt

in_field_leaves : (c : ℕ) (fields : List (List ℕ)) (field : List ℕ) → Leaves (in_field default_config c) c fields field
in_field_leaves c fields field = field_leaves (c == 44) ((c == 13) || (c == 10)) (c == 13) c fields field

start_leaves : (quote : Bool) (r : State × Action) (c : ℕ) (fields : List (List ℕ)) (field : List ℕ) → Leaves r c fields field
    → Leaves (if quote then (st.InQuoted, act.Skip) else r) c fields field
start_leaves true r c fields field h = tt
start_leaves false r c fields field h = h

start_field_leaves : (c : ℕ) (fields : List (List ℕ)) (field : List ℕ) → Leaves (start_field default_config c) c fields field
start_field_leaves c fields field = start_leaves (c == 34) (in_field default_config c) c fields field (in_field_leaves c fields field)

record_leaves : (end : Bool) (r : State × Action) (c : ℕ) (fields : List (List ℕ)) (field : List ℕ) → (fields ≡ []) × (field ≡ []) → Leaves r c fields field
    → Leaves (if end then (st.StartRecord, act.Skip) else r) c fields field
record_leaves true r c fields field e h = e
record_leaves false r c fields field e h = h

start_record_leaves : (c : ℕ) (fields : List (List ℕ)) (field : List ℕ) → (fields ≡ []) × (field ≡ []) → Leaves (start_record default_config c) c fields field
start_record_leaves c fields field e =
    record_leaves ((c == 13) || (c == 10)) (start_field default_config c) c fields field e (start_field_leaves c fields field)

quoted_leaves : (quote : Bool) (c : ℕ) (fields : List (List ℕ)) (field : List ℕ)
    → Leaves (if quote then (st.AfterQuote, act.Skip) else (st.InQuoted, act.Copy)) c fields field
quoted_leaves true c fields field = tt
quoted_leaves false c fields field = tt

after_quote_leaves : (quote : Bool) (r : State × Action) (c : ℕ) (fields : List (List ℕ)) (field : List ℕ) → Leaves r c fields field
    → Leaves (if quote then (st.InQuoted, act.Copy) else r) c fields field
after_quote_leaves true r c fields field h = tt
after_quote_leaves false r c fields field h = h

comment_leaves : (end : Bool) (c : ℕ) (fields : List (List ℕ)) (field : List ℕ) → (fields ≡ []) × (field ≡ [])
    → Leaves (if end then (st.StartRecord, act.Skip) else (st.InComment, act.Skip)) c fields field
comment_leaves true c fields field e = e
comment_leaves false c fields field e = e

pub step_leaves : (s : State) (c : ℕ) (fields : List (List ℕ)) (field : List ℕ) → IsFresh s fields field → Leaves (step default_config s c) c fields field
step_leaves st.StartRecord c fields field h = start_record_leaves c fields field h
step_leaves st.StartField c fields field h = start_field_leaves c fields field
step_leaves st.InField c fields field h = in_field_leaves c fields field
step_leaves st.InQuoted c fields field h = quoted_leaves (c == 34) c fields field
step_leaves st.InEscape c fields field h = tt
step_leaves st.AfterQuote c fields field h = after_quote_leaves (c == 34) (in_field default_config c) c fields field (in_field_leaves c fields field)
step_leaves st.InComment c fields field h = comment_leaves (c == 10) c fields field h
step_leaves st.AfterCr c fields field h = record_leaves (c == 10) (start_record default_config c) c fields field h (start_record_leaves c fields field h)

-- After a CR the next row begins as it does after an LF.
lf_same : (c : ℕ) (lf : Bool) → (c == 10) ≡ lf
    → (if lf then (st.StartRecord, act.Skip) else start_record default_config c) ≡ start_record default_config c
lf_same c true e = rw (eqb-true c 10 e) refl
lf_same c false e = refl

pub cr_same : (c : ℕ) → step default_config st.AfterCr c ≡ step default_config st.StartRecord c
cr_same c = lf_same c (c == 10) refl

pub pass_after_cr : (xs : List ℕ) → pass default_config st.AfterCr [] [] xs ≡ pass default_config st.StartRecord [] [] xs
unfolding pass
pass_after_cr [] = refl
pass_after_cr (c ∷ rest) = rw (cr_same c) refl

emitted_append : (a : Action) (fields : List (List ℕ)) (field : List ℕ) (xs ys zs : List Row) → zs ≡ xs ++ ys
    → emitted a fields field zs ≡ emitted a fields field xs ++ ys
emitted_append act.EndRecord fields field xs ys zs e = ap (λ (more : List Row). (fields ++ (field ∷ [])) ∷ more) e
emitted_append act.EndField fields field xs ys zs e = e
emitted_append act.Skip fields field xs ys zs e = e
emitted_append act.Copy fields field xs ys zs e = e

-- No byte of the first piece is left.
at_end : (s : State) (fields : List (List ℕ)) (field : List ℕ) (b : List ℕ) → IsFresh s fields field → ends_at_end s ≡ false
    → pass default_config s fields field b ≡ pass default_config s fields field [] ++ pass default_config st.StartRecord [] [] b
unfolding pass
at_end st.StartRecord fields field b h e = rw (h.0, h.1) refl
at_end st.AfterCr fields field b h e = rw (h.0, h.1) (pass_after_cr b)
at_end st.InComment fields field b h e = cc e
at_end st.StartField fields field b h e = cc e
at_end st.InField fields field b h e = cc e
at_end st.InQuoted fields field b h e = cc e
at_end st.AfterQuote fields field b h e = cc e
at_end st.InEscape fields field b h e = cc e

pass_append : (a : List ℕ) (s : State) (fields : List (List ℕ)) (field : List ℕ) (b : List ℕ) → IsFresh s fields field → ends_at_end (state_after s a) ≡ false
    → pass default_config s fields field (a ++ b) ≡ pass default_config s fields field a ++ pass default_config st.StartRecord [] [] b
unfolding pass
pass_append [] s fields field b h e = at_end s fields field b h e
pass_append (c ∷ a) s fields field b h e =
    let r = step default_config s c in
    emitted_append r.1 fields field _ _ _
    (pass_append a r.0 (kept r.1 fields field) (field_after r.1 c field) b (step_leaves s c fields field h) e)

-- Bytes that end after a row can be cut off.
pub rows_cut : (a b : List ℕ) → EndsBetween a → rows_of (a ++ b) ≡ rows_of a ++ rows_of b
rows_cut a b e =
    one_pass (a ++ b)
    ∙ pass_append a st.StartRecord [] [] b (refl, refl) e
    ∙ ap₂ (λ xs ys. xs ++ ys) (sym (one_pass a)) (sym (one_pass b))

-- An LF outside quotes ends a row.
pub state_append : (a b : List ℕ) (s : State) → state_after s (a ++ b) ≡ state_after (state_after s a) b
state_append [] b s = refl
state_append (c ∷ a) b s = state_append a b (step default_config s c).0

lf_ends : (s : State) → IsOutside s → state_after s (10 ∷ []) ≡ st.StartRecord
lf_ends st.StartRecord h = refl
lf_ends st.StartField h = refl
lf_ends st.InField h = refl
lf_ends st.AfterQuote h = refl
lf_ends st.InComment h = absurd h
lf_ends st.AfterCr h = refl
lf_ends st.InQuoted h = absurd h
lf_ends st.InEscape h = absurd h

pub line_ends : (a : List ℕ) → EndsOutside a → EndsBetween (a ++ 10 ∷ [])
line_ends a h = rw (state_append a (10 ∷ []) st.StartRecord, lf_ends (state_after st.StartRecord a) h) refl

-- Bytes without quotes end outside quotes.
abbrev IsState : State × Action → Type 0
IsState r = IsOutside r.0

plain_outside : (comma end cr : Bool)
    → IsState (if comma then (st.StartField, act.EndField) else if end then (if cr then st.AfterCr else st.StartRecord, act.EndRecord) else (st.InField, act.Copy))
plain_outside true end cr = tt
plain_outside false true true = tt
plain_outside false true false = tt
plain_outside false false cr = tt

either_outside : (t : Bool) (s : State) (r : State × Action) (a : Action) → IsOutside s → IsOutside r.0 → IsState (if t then (s, a) else r)
either_outside true s r a h k = h
either_outside false s r a h k = k

in_field_outside : (c : ℕ) → IsOutside (in_field default_config c).0
in_field_outside c = plain_outside (c == 44) ((c == 13) || (c == 10)) (c == 13)

no_quote_outside : (c : ℕ) (quote : Bool) (a : Action) → (c == 34) ≡ quote → c ≢ 34 → IsState (if quote then (st.InQuoted, a) else in_field default_config c)
no_quote_outside c true a e h = absurd (h (eqb-true c 34 e))
no_quote_outside c false a e h = in_field_outside c

start_record_outside : (c : ℕ) → c ≢ 34 → IsOutside (start_record default_config c).0
start_record_outside c h =
    either_outside ((c == 13) || (c == 10)) st.StartRecord (start_field default_config c) act.Skip tt (no_quote_outside c (c == 34) act.Skip refl h)

step_outside : (s : State) (c : ℕ) → c ≢ 34 → IsOutside s → IsOutside (step default_config s c).0
step_outside st.StartRecord c h o = start_record_outside c h
step_outside st.StartField c h o = no_quote_outside c (c == 34) act.Skip refl h
step_outside st.InField c h o = in_field_outside c
step_outside st.AfterQuote c h o = no_quote_outside c (c == 34) act.Copy refl h
step_outside st.InComment c h o = absurd o
step_outside st.AfterCr c h o = either_outside (c == 10) st.StartRecord (start_record default_config c) act.Skip tt (start_record_outside c h)
step_outside st.InQuoted c h o = absurd o
step_outside st.InEscape c h o = absurd o

outside_from : (s : State) (a : List ℕ) → HasNoQuote a → IsOutside s → IsOutside (state_after s a)
outside_from s [] h o = o
outside_from s (c ∷ a) h o = outside_from (step default_config s c).0 a (All-tail (λ b. b ≢ 34) c a h) (step_outside s c (All-head (λ b. b ≢ 34) c a h) o)

pub no_quote_ends : (a : List ℕ) → HasNoQuote a → EndsOutside a
no_quote_ends a h = outside_from st.StartRecord a h tt

-- The laws.
pub rows_cut_at_lf : (a b : List ℕ) → EndsOutside a → rows_of (a ++ 10 ∷ b) ≡ rows_of (a ++ 10 ∷ []) ++ rows_of b
rows_cut_at_lf a b h = ap rows_of (sym (append_assoc a (10 ∷ []) b)) ∙ rows_cut (a ++ 10 ∷ []) b (line_ends a h)

pub rows_cut_no_quote : (a b : List ℕ) → HasNoQuote a → rows_of (a ++ 10 ∷ b) ≡ rows_of (a ++ 10 ∷ []) ++ rows_of b
rows_cut_no_quote a b h = rows_cut_at_lf a b (no_quote_ends a h)

-- An LF may also begin the next piece.
before_lf : (s : State) (fields : List (List ℕ)) (field : List ℕ) (b : List ℕ) → IsOutside s → IsFresh s fields field
    → pass default_config s fields field (10 ∷ b) ≡ pass default_config s fields field [] ++ pass default_config st.StartRecord [] [] b
unfolding pass
before_lf st.StartRecord fields field b o h = rw (h.0, h.1) refl
before_lf st.AfterCr fields field b o h = rw (h.0, h.1) refl
before_lf st.StartField fields field b o h = refl
before_lf st.InField fields field b o h = refl
before_lf st.AfterQuote fields field b o h = refl
before_lf st.InComment fields field b o h = absurd o
before_lf st.InQuoted fields field b o h = absurd o
before_lf st.InEscape fields field b o h = absurd o

pass_before_lf : (a : List ℕ) (s : State) (fields : List (List ℕ)) (field : List ℕ) (b : List ℕ) → IsOutside (state_after s a) → IsFresh s fields field
    → pass default_config s fields field (a ++ 10 ∷ b) ≡ pass default_config s fields field a ++ pass default_config st.StartRecord [] [] b
unfolding pass
pass_before_lf [] s fields field b o h = before_lf s fields field b o h
pass_before_lf (c ∷ a) s fields field b o h =
    let r = step default_config s c in
    emitted_append r.1 fields field _ _ _
    (pass_before_lf a r.0 (kept r.1 fields field) (field_after r.1 c field) b o (step_leaves s c fields field h))

-- An LF at the start is passed over.
pub rows_after_lf : (b : List ℕ) → rows_of (10 ∷ b) ≡ rows_of b
unfolding pass
rows_after_lf b = one_pass (10 ∷ b) ∙ sym (one_pass b)

-- So an LF outside quotes may end a piece, begin one, or be left out.
pub rows_around_lf : (a b : List ℕ) → EndsOutside a → rows_of (a ++ 10 ∷ b) ≡ rows_of a ++ rows_of b
rows_around_lf a b o =
    one_pass (a ++ 10 ∷ b)
    ∙ pass_before_lf a st.StartRecord [] [] b o (refl, refl)
    ∙ ap₂ (λ xs ys. xs ++ ys) (sym (one_pass a)) (sym (one_pass b))

pub rows_cut_before_lf : (a b : List ℕ) → EndsOutside a → rows_of (a ++ 10 ∷ b) ≡ rows_of a ++ rows_of (10 ∷ b)
rows_cut_before_lf a b o = rows_around_lf a b o ∙ ap (λ ys. rows_of a ++ ys) (sym (rows_after_lf b))

pub no_rows : rows_of [] ≡ []
unfolding pass
no_rows = one_pass []

-- Outside quotes a CR does what an LF does.
cr_is_lf : (s : State) (fields : List (List ℕ)) (field : List ℕ) (b : List ℕ) → IsOutside s → IsFresh s fields field
    → pass default_config s fields field (13 ∷ b) ≡ pass default_config s fields field (10 ∷ b)
unfolding pass
cr_is_lf st.StartRecord fields field b o h = refl
cr_is_lf st.AfterCr fields field b o h = refl
cr_is_lf st.StartField fields field b o h = ap (λ (more : List Row). (fields ++ (field ∷ [])) ∷ more) (pass_after_cr b)
cr_is_lf st.InField fields field b o h = ap (λ (more : List Row). (fields ++ (field ∷ [])) ∷ more) (pass_after_cr b)
cr_is_lf st.AfterQuote fields field b o h = ap (λ (more : List Row). (fields ++ (field ∷ [])) ∷ more) (pass_after_cr b)
cr_is_lf st.InComment fields field b o h = absurd o
cr_is_lf st.InQuoted fields field b o h = absurd o
cr_is_lf st.InEscape fields field b o h = absurd o

pass_cr : (a : List ℕ) (s : State) (fields : List (List ℕ)) (field : List ℕ) (b : List ℕ) → IsOutside (state_after s a) → IsFresh s fields field
    → pass default_config s fields field (a ++ 13 ∷ b) ≡ pass default_config s fields field (a ++ 10 ∷ b)
unfolding pass
pass_cr [] s fields field b o h = cr_is_lf s fields field b o h
pass_cr (c ∷ a) s fields field b o h =
    let r = step default_config s c in
    ap (emitted r.1 fields field) (pass_cr a r.0 (kept r.1 fields field) (field_after r.1 c field) b o (step_leaves s c fields field h))

pub rows_cr : (a b : List ℕ) → EndsOutside a → rows_of (a ++ 13 ∷ b) ≡ rows_of (a ++ 10 ∷ b)
rows_cr a b o = one_pass (a ++ 13 ∷ b) ∙ pass_cr a st.StartRecord [] [] b o (refl, refl) ∙ sym (one_pass (a ++ 10 ∷ b))

-- Outside quotes the end of a line may begin the next part.
rows_before_end : (a : List ℕ) (c : ℕ) (b : List ℕ) → EndsOutside a → is_line_end c ≡ true → rows_of (a ++ c ∷ b) ≡ rows_of a ++ rows_of (c ∷ b)
rows_before_end a c b o e = elim (cases_Bool (c == 13)) [
  | inl cr ↦
      rw (eqb-true c 13 cr)
      (rows_cr a b o
      ∙ rows_cut_before_lf a b o
      ∙ ap (λ ys. rows_of a ++ ys) (sym (rows_cr [] b tt)))
  | inr other ↦
      let lf : (c == 10) ≡ true = rw other at e in
      rw (eqb-true c 10 lf) (rows_cut_before_lf a b o)
]

pub rows_cut_before_line : (a b : List ℕ) → EndsOutside a → BeginsLine b → rows_of (a ++ b) ≡ rows_of a ++ rows_of b
rows_cut_before_line a [] o h =
    ap rows_of (append-nil a) ∙ sym (ap (λ ys. rows_of a ++ ys) no_rows ∙ append-nil (rows_of a))
rows_cut_before_line a (c ∷ b) o h = rows_before_end a c b o h

-- Where the bytes begin with the end of a line, `csv` finds no byte-order mark.
no_mark : (b : ℕ) (rest : List ℕ) → (b == 239) ≡ false → strip_bom (b ∷ rest) ≡ b ∷ rest
unfolding strip_bom
no_mark b [] e = refl
no_mark b (c ∷ []) e = refl
no_mark b (c ∷ d ∷ rest) e = rw e refl

end_no_mark : (b : ℕ) → is_line_end b ≡ true → (b == 239) ≡ false
end_no_mark b e = elim (cases_Bool (b == 13)) [
  | inl cr ↦ rw (eqb-true b 13 cr) refl
  | inr other ↦ let lf : (b == 10) ≡ true = rw other at e in rw (eqb-true b 10 lf) refl
]

pub unmarked : (bytes : List ℕ) → BeginsLine bytes → strip_bom bytes ≡ bytes
unfolding strip_bom
unmarked [] h = refl
unmarked (b ∷ rest) h = no_mark b rest (end_no_mark b h)

-- A quote closes quotes, and the row stays.
close : (s : State) (fields : List (List ℕ)) (field : List ℕ) → s ≡ st.InQuoted
    → pass default_config s fields field (34 ∷ []) ≡ pass default_config s fields field []
unfolding pass
close s fields field e = rw e refl

pass_close : (a : List ℕ) (s : State) (fields : List (List ℕ)) (field : List ℕ) → state_after s a ≡ st.InQuoted
    → pass default_config s fields field (a ++ 34 ∷ []) ≡ pass default_config s fields field a
unfolding pass
pass_close [] s fields field e = close s fields field e
pass_close (c ∷ a) s fields field e =
    let r = step default_config s c in
    ap (emitted r.1 fields field) (pass_close a r.0 (kept r.1 fields field) (field_after r.1 c field) e)

pub rows_closed : (a : List ℕ) → EndsInQuotes a → rows_of (a ++ 34 ∷ []) ≡ rows_of a
rows_closed a e = one_pass (a ++ 34 ∷ []) ∙ pass_close a st.StartRecord [] [] e ∙ sym (one_pass a)

pub closed_outside : (a : List ℕ) → EndsInQuotes a → EndsOutside (a ++ 34 ∷ [])
closed_outside a e = rw (state_append a (34 ∷ []) st.StartRecord, e) tt

-- Pieces that are read in turn.
cr_outside : (b : List ℕ) → IsOutside (state_after st.StartRecord b) → IsOutside (state_after st.AfterCr b)
cr_outside [] h = tt
cr_outside (c ∷ b) h = rw (cr_same c) h

-- After the end of a line outside quotes reading goes on as from the start.
after_end : (s : State) → IsOutside s → (c : ℕ) → (c ≡ 10) ⊎ (c ≡ 13) → (b : List ℕ) → IsOutside (state_after (step default_config st.StartRecord c).0 b)
    → IsOutside (state_after (step default_config s c).0 b)
after_end st.StartRecord o c e b h = h
after_end st.StartField o c (inl e) b h = rw e (rw e at h)
after_end st.StartField o c (inr e) b h = rw e (cr_outside b (rw e at h))
after_end st.InField o c (inl e) b h = rw e (rw e at h)
after_end st.InField o c (inr e) b h = rw e (cr_outside b (rw e at h))
after_end st.AfterQuote o c (inl e) b h = rw e (rw e at h)
after_end st.AfterQuote o c (inr e) b h = rw e (cr_outside b (rw e at h))
after_end st.InComment o c e b h = absurd o
after_end st.AfterCr o c e b h = rw (cr_same c) h
after_end st.InQuoted o c e b h = absurd o
after_end st.InEscape o c e b h = absurd o

which_end : (c : ℕ) → is_line_end c ≡ true → (c ≡ 10) ⊎ (c ≡ 13)
which_end c e = elim (cases_Bool (c == 13)) [
  | inl cr ↦ inr (eqb-true c 13 cr)
  | inr other ↦ let lf : (c == 10) ≡ true = rw other at e in inl (eqb-true c 10 lf)
]

end_then : (s : State) (c : ℕ) (b : List ℕ) → IsOutside s → is_line_end c ≡ true → IsOutside (state_after st.StartRecord (c ∷ b)) → IsOutside (state_after s (c ∷ b))
end_then s c b o e h = after_end s o c (which_end c e) b h

begins_append : (a b : List ℕ) → BeginsLine a → BeginsLine b → BeginsLine (a ++ b)
begins_append [] b h g = g
begins_append (c ∷ a) b h g = h

line_then : (s : State) (b : List ℕ) → IsOutside s → BeginsLine b → IsOutside (state_after st.StartRecord b) → IsOutside (state_after s b)
line_then s [] o h e = o
line_then s (c ∷ b) o h e = end_then s c b o h e

pub piece_append : (a b : List ℕ) → IsPiece a → IsPiece b → IsPiece (a ++ b)
piece_append a b p q = record {
  begins = begins_append a b p.begins q.begins;
  ends = rw (state_append a b st.StartRecord) (line_then (state_after st.StartRecord a) b p.ends q.begins q.ends);
}

pub pieces_piece : (pieces : List (List ℕ)) → All IsPiece pieces → IsPiece (concat pieces)
pieces_piece [] h = record { begins = tt; ends = tt }
pieces_piece (a ∷ pieces) h = piece_append a (concat pieces) (All-head IsPiece a pieces h) (pieces_piece pieces (All-tail IsPiece a pieces h))

pub pieces_rows : (pieces : List (List ℕ)) → All IsPiece pieces → rows_of (concat pieces) ≡ flat_map rows_of pieces
pieces_rows [] h = no_rows
pieces_rows (a ∷ pieces) h =
    let rest = pieces_piece pieces (All-tail IsPiece a pieces h) in
    rows_cut_before_line a (concat pieces) (All-head IsPiece a pieces h).ends rest.begins
    ∙ ap (λ ys. rows_of a ++ ys) (pieces_rows pieces (All-tail IsPiece a pieces h))
