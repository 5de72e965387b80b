-- The state of `csv` and the place in a row go along with each other.
use Rattle.std.proofs.Common.{◌≡◌, ◌≢◌, ◌∙◌, refl, sym, ap, ap₂, ℕ, suc, ◌+◌, ◌==◌, ◌||◌, ◌&&◌, arith, Bool, true, false, not, if◌then◌else◌, List, [], ◌∷◌, ◌++◌, length}
use Rattle.std.proofs.lemmas.Bool.{eqb-true}
use Rattle.csv.specs.Machine.{ends_at_end, field_after, in_field, is_end, start_field, step}
use Rattle.csv.specs.Reading.{default_config}
use Rattle.csv.specs.declared.parser.State.{State}
use Rattle.csv.specs.declared.parser.State.TheVariants as st
use Rattle.csv.specs.declared.parser.Action.{Action}
use Rattle.csv.specs.declared.parser.Action.TheVariants as act
use Rattle.sym_rows.specs.Rows.{EndsInQuotes, EndsOutside, IsOutside, Row, is_line_end, rows_of, state_after}
use Rattle.sym_rows.specs.Places.{goes, inside, is_between, is_quoted, next_step, one_if, place_after, place_of, row_ends, start}
use Rattle.sym_rows.specs.declared.place.Place.{Place}
use Rattle.sym_rows.specs.declared.place.Place.TheVariants as place
use Rattle.sym_rows.specs.declared.place.Step.{Step}
use Rattle.sym_rows.proofs.OnePass.{emitted, kept, one_pass, pass}
use Rattle.sym_rows.proofs.Parts.{cr_same}

-- The state at a place, or the one after a CR between rows.
abbrev pub Same : State → Place → Type 0
Same st.AfterCr p = p ≡ place.Between
Same st.StartRecord p = p ≡ place.Between
Same st.StartField p = p ≡ place.Start
Same st.InField p = p ≡ place.Inside
Same st.InQuoted p = p ≡ place.Quoted
Same st.AfterQuote p = p ≡ place.AfterQuote
Same st.InEscape p = ⊥
Same st.InComment p = ⊥

record Agrees (r : State × Action) (t : Step) : Type 0 where
  same : Same r.0 t.at
  ends : is_end r.1 ≡ t.ends

inside_bits : (comma end cr : Bool)
    → Agrees (if comma then (st.StartField, act.EndField) else if end then (if cr then st.AfterCr else st.StartRecord, act.EndRecord) else (st.InField, act.Copy))
    (if comma then goes place.Start false else if end then goes place.Between true else goes place.Inside false)
inside_bits true end cr = record { same = refl; ends = refl }
inside_bits false true true = record { same = refl; ends = refl }
inside_bits false true false = record { same = refl; ends = refl }
inside_bits false false cr = record { same = refl; ends = refl }

inside_agrees : (c : ℕ) → Agrees (in_field default_config c) (inside c)
inside_agrees c = inside_bits (c == 44) ((c == 13) || (c == 10)) (c == 13)

either : (b : Bool) (s : State) (a : Action) (p : Place) (r : State × Action) (t : Step) → Same s p → is_end a ≡ false → Agrees r t
    → Agrees (if b then (s, a) else r) (if b then goes p false else t)
either true s a p r t h e g = record { same = h; ends = e }
either false s a p r t h e g = g

start_agrees : (c : ℕ) → Agrees (start_field default_config c) (start c)
start_agrees c = either (c == 34) st.InQuoted act.Skip place.Quoted (in_field default_config c) (inside c) refl refl (inside_agrees c)

between_agrees : (c : ℕ) → Agrees (step default_config st.StartRecord c) (next_step place.Between c)
between_agrees c = either ((c == 13) || (c == 10)) st.StartRecord act.Skip place.Between (start_field default_config c) (start c) refl refl (start_agrees c)

step_agrees : (s : State) (p : Place) (c : ℕ) → Same s p → Agrees (step default_config s c) (next_step p c)
step_agrees st.AfterCr p c e = rw (e, cr_same c) (between_agrees c)
step_agrees st.StartRecord p c e = rw e (between_agrees c)
step_agrees st.StartField p c e = rw e (start_agrees c)
step_agrees st.InField p c e = rw e (inside_agrees c)
step_agrees st.InQuoted p c e =
    rw e (either (c == 34) st.AfterQuote act.Skip place.AfterQuote (st.InQuoted, act.Copy) (goes place.Quoted false) refl refl (record { same = refl; ends = refl }))
step_agrees st.AfterQuote p c e = rw e (either (c == 34) st.InQuoted act.Copy place.Quoted (in_field default_config c) (inside c) refl refl (inside_agrees c))
step_agrees st.InEscape p c e = absurd e
step_agrees st.InComment p c e = absurd e

same_after : (xs : List ℕ) (s : State) (p : Place) → Same s p → Same (state_after s xs) (place_after p xs)
same_after [] s p h = h
same_after (c ∷ xs) s p h = same_after xs (step default_config s c).0 (next_step p c).at (step_agrees s p c h).same

-- So many rows are there as end, and one more that is begun.
begun_at : (s : State) (p : Place) (row : Row) → Same s p → length (if ends_at_end s then row ∷ [] else []) ≡ one_if (not (is_between p))
begun_at st.AfterCr p row e = rw e refl
begun_at st.StartRecord p row e = rw e refl
begun_at st.StartField p row e = rw e refl
begun_at st.InField p row e = rw e refl
begun_at st.InQuoted p row e = rw e refl
begun_at st.AfterQuote p row e = rw e refl
begun_at st.InEscape p row e = absurd e
begun_at st.InComment p row e = absurd e

emitted_size : (a : Action) (fields : List (List ℕ)) (field : List ℕ) (more : List Row) → length (emitted a fields field more) ≡ one_if (is_end a) + length more
emitted_size act.EndRecord fields field more = omega arith
emitted_size act.EndField fields field more = omega arith
emitted_size act.Skip fields field more = omega arith
emitted_size act.Copy fields field more = omega arith

pass_size : (xs : List ℕ) (s : State) (p : Place) (fields : List (List ℕ)) (field : List ℕ) → Same s p
    → length (pass default_config s fields field xs) ≡ row_ends p xs + one_if (not (is_between (place_after p xs)))
unfolding pass
pass_size [] s p fields field h = let one = begun_at s p (fields ++ (field ∷ [])) h in omega (arith, one)
pass_size (c ∷ xs) s p fields field h =
    let r = step default_config s c in
    let a = step_agrees s p c h in
    let rest = pass_size xs r.0 (next_step p c).at (kept r.1 fields field) (field_after r.1 c field) a.same in
    let one = emitted_size r.1 fields field (pass default_config r.0 (kept r.1 fields field) (field_after r.1 c field) xs) in
    let same : one_if (is_end r.1) ≡ one_if (next_step p c).ends = ap one_if a.ends in
    omega (arith, rest, one, same)

pub rows_counted : (xs : List ℕ) → length (rows_of xs) ≡ row_ends place.Between xs + one_if (not (is_between (place_after place.Between xs)))
rows_counted xs = ap length (one_pass xs) ∙ pass_size xs st.StartRecord place.Between [] [] refl

-- What the place says of the state.
outside_at : (s : State) (p : Place) → Same s p → is_quoted p ≡ false → IsOutside s
outside_at st.AfterCr p e q = tt
outside_at st.StartRecord p e q = tt
outside_at st.StartField p e q = tt
outside_at st.InField p e q = tt
outside_at st.InQuoted p e q = cc (rw e at q)
outside_at st.AfterQuote p e q = tt
outside_at st.InEscape p e q = absurd e
outside_at st.InComment p e q = absurd e

quoted_at : (s : State) (p : Place) → Same s p → is_quoted p ≡ true → s ≡ st.InQuoted
quoted_at st.AfterCr p e q = cc (rw e at q)
quoted_at st.StartRecord p e q = cc (rw e at q)
quoted_at st.StartField p e q = cc (rw e at q)
quoted_at st.InField p e q = cc (rw e at q)
quoted_at st.InQuoted p e q = refl
quoted_at st.AfterQuote p e q = cc (rw e at q)
quoted_at st.InEscape p e q = absurd e
quoted_at st.InComment p e q = absurd e

pub ends_outside : (xs : List ℕ) → is_quoted (place_after place.Between xs) ≡ false → EndsOutside xs
ends_outside xs q = outside_at (state_after st.StartRecord xs) (place_after place.Between xs) (same_after xs st.StartRecord place.Between refl) q

pub ends_in_quotes : (xs : List ℕ) → is_quoted (place_after place.Between xs) ≡ true → EndsInQuotes xs
ends_in_quotes xs q = quoted_at (state_after st.StartRecord xs) (place_after place.Between xs) (same_after xs st.StartRecord place.Between refl) q

-- Where a byte ends a row, it ends a line, and a row was begun outside quotes.
pub record EndsThere (p : Place) (c : ℕ) : Type 0 where
  pub line : is_line_end c ≡ true
  pub begun : is_between p ≡ false
  pub outside : is_quoted p ≡ false

inside_ends : (c : ℕ) (comma end : Bool) → is_line_end c ≡ end → (if comma then goes place.Start false else if end then goes place.Between true else goes place.Inside false).ends ≡ true → is_line_end c ≡ true
inside_ends c true end e h = cc h
inside_ends c false true e h = e
inside_ends c false false e h = cc h

start_ends : (c : ℕ) (quote : Bool) → (if quote then goes place.Quoted false else inside c).ends ≡ true → is_line_end c ≡ true
start_ends c true h = cc h
start_ends c false h = inside_ends c (c == 44) (is_line_end c) refl h

between_ends : (c : ℕ) (end : Bool) → is_line_end c ≡ end → (if end then goes place.Between false else start c).ends ≡ true → ⊥
between_ends c true e h = cc h
between_ends c false e h = let line = start_ends c (c == 34) h in cc (e, line)

quoted_ends : (quote : Bool) → (if quote then goes place.AfterQuote false else goes place.Quoted false).ends ≡ true → ⊥
quoted_ends true h = cc h
quoted_ends false h = cc h

pub ends_there : (p : Place) (c : ℕ) → (next_step p c).ends ≡ true → EndsThere p c
ends_there place.Between c h = absurd (between_ends c (is_line_end c) refl h)
ends_there place.Start c h = record { line = start_ends c (c == 34) h; begun = refl; outside = refl }
ends_there place.Inside c h = record { line = inside_ends c (c == 44) (is_line_end c) refl h; begun = refl; outside = refl }
ends_there place.Quoted c h = absurd (quoted_ends (c == 34) h)
ends_there place.AfterQuote c h = record { line = start_ends c (c == 34) h; begun = refl; outside = refl }

-- Bytes after bytes.
pub place_append : (xs ys : List ℕ) (p : Place) → place_after p (xs ++ ys) ≡ place_after (place_after p xs) ys
place_append [] ys p = refl
place_append (c ∷ xs) ys p = place_append xs ys (next_step p c).at

pub ends_append : (xs ys : List ℕ) (p : Place) → row_ends p (xs ++ ys) ≡ row_ends p xs + row_ends (place_after p xs) ys
ends_append [] ys p = omega arith
ends_append (c ∷ xs) ys p = let rest = ends_append xs ys (next_step p c).at in omega (arith, rest)

pub place_push : (xs : List ℕ) (c : ℕ) (p : Place) → place_after p (xs ++ c ∷ []) ≡ (next_step (place_after p xs) c).at
place_push xs c p = place_append xs (c ∷ []) p

pub ends_push : (xs : List ℕ) (c : ℕ) (p : Place) → row_ends p (xs ++ c ∷ []) ≡ row_ends p xs + one_if (next_step (place_after p xs) c).ends
ends_push xs c p = let sum = ends_append xs (c ∷ []) p in omega (arith, sum)

-- A byte that is no quote, after one that was read outside quotes.
pub record Goes (t : Step) (at : Place) (ends : Bool) : Type 0 where
  pub at_is : t.at ≡ at
  pub ends_is : t.ends ≡ ends

after_plain : (comma end begun : Bool) → begun ≡ true → (comma && end) ≡ false
    → Goes (if comma then goes place.Start false else if end then goes place.Between true else goes place.Inside false)
    (if end then place.Between else if comma then place.Start else place.Inside) (end && begun)
after_plain true true begun b e = cc e
after_plain true false begun b e = record { at_is = refl; ends_is = refl }
after_plain false true begun b e = record { at_is = refl; ends_is = sym b }
after_plain false false begun b e = record { at_is = refl; ends_is = refl }

comma_no_end : (c : ℕ) (comma : Bool) → (c == 44) ≡ comma → (comma && is_line_end c) ≡ false
comma_no_end c true e = rw (eqb-true c 44 e) refl
comma_no_end c false e = refl

inside_plain : (c : ℕ) (begun : Bool) → begun ≡ true → Goes (inside c) (place_of c) (is_line_end c && begun)
inside_plain c begun b = after_plain (c == 44) (is_line_end c) begun b (comma_no_end c (c == 44) refl)

unquoted : (quote : Bool) (t u : Step) (at : Place) (ends : Bool) → quote ≡ false → Goes u at ends → Goes (if quote then t else u) at ends
unquoted true t u at ends e g = cc e
unquoted false t u at ends e g = g

between_plain : (end comma : Bool) (t : Step) → (comma && end) ≡ false → Goes t (if end then place.Between else if comma then place.Start else place.Inside) (end && true)
    → Goes (if end then goes place.Between false else t) (if end then place.Between else if comma then place.Start else place.Inside) (end && false)
between_plain true comma t e g = record { at_is = refl; ends_is = refl }
between_plain false comma t e g = g

pub plain_step : (p : Place) (c : ℕ) → is_quoted p ≡ false → (c == 34) ≡ false → Goes (next_step p c) (place_of c) (is_line_end c && not (is_between p))
plain_step place.Between c q n =
    between_plain (is_line_end c) (c == 44) (start c) (comma_no_end c (c == 44) refl)
    (unquoted (c == 34) (goes place.Quoted false) (inside c) (place_of c) (is_line_end c && true) n (inside_plain c true refl))
plain_step place.Start c q n = unquoted (c == 34) (goes place.Quoted false) (inside c) (place_of c) (is_line_end c && true) n (inside_plain c true refl)
plain_step place.Inside c q n = inside_plain c true refl
plain_step place.Quoted c q n = cc q
plain_step place.AfterQuote c q n = unquoted (c == 34) (goes place.Quoted false) (inside c) (place_of c) (is_line_end c && true) n (inside_plain c true refl)

place_bits : (end comma : Bool) → (is_quoted (if end then place.Between else if comma then place.Start else place.Inside) ≡ false)
    × (is_between (if end then place.Between else if comma then place.Start else place.Inside) ≡ end)
place_bits true comma = (refl, refl)
place_bits false true = (refl, refl)
place_bits false false = (refl, refl)

pub plain_after : (before c : ℕ) → (c == 34) ≡ false → Goes (next_step (place_of before) c) (place_of c) (is_line_end c && not (is_line_end before))
plain_after before c n =
    let bits = place_bits (is_line_end before) (before == 44) in
    let on = plain_step (place_of before) c bits.0 n in
    record { at_is = on.at_is; ends_is = on.ends_is ∙ ap (λ b. is_line_end c && not b) bits.1 }
