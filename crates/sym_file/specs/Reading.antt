-- Reading a file's bytes from left to right: a value and the bytes after it, or none. Each function
-- reads one line of the format, and gives exactly what has that text. What is read may break
-- rules of the script still; these are tried on the whole.
use Rattle.std.specs.Prelude.{◌≡◌, ℕ, zero, suc, ◌+◌, ◌-◌, ◌*◌, ◌^◌, ℤ, pos, negsuc, nat_lt, nat_le, Bool, true, false, ◌&&◌, ◌==◌, List, [], ◌∷◌, length, take, drop, Option, Some, None, Result, Ok, Err, slice_get, codes, unsigned_abs, if◌then◌else◌}
use Rattle.std.specs.Str.{is_utf8}
use Rattle.sym_base.specs.Limits.{num_max}
use Rattle.sym_base.specs.declared.values.value.Key.{Key}
use Rattle.sym_base.specs.declared.values.value.Value.{Value}
use Rattle.sym_base.specs.declared.values.value.Value.TheVariants as value
use Rattle.sym_base.specs.declared.values.state.FaultKind.TheVariants as fault
use Rattle.sym_check.specs.declared.plan.script.CellPlan.{CellPlan}
use Rattle.sym_check.specs.declared.plan.script.CellPlan.TheVariants as plan
use Rattle.sym_check.specs.Plan.ScriptPlans.{ScriptPlan, TestOf}
use Rattle.sym_enum.specs.declared.form.EnumForm.TheVariants as label
use Rattle.sym_int.specs.declared.form.IntForm.{IntForm}
use Rattle.sym_int.specs.declared.form.IntForm.TheVariants as number
use Rattle.sym_pred.specs.declared.form.HoldForm.TheVariants as hold
use Rattle.sym_pred.specs.declared.literal.Literal.{Literal}
use Rattle.sym_path.specs.declared.part.Part.{Part}
use Rattle.sym_path.specs.declared.part.Part.TheVariants as part
use Rattle.sym_path.specs.declared.form.Form.{Form}
use Rattle.sym_path.specs.declared.form.Form.TheVariants as form
use Rattle.sym_path.specs.declared.path.Path.{Path}
use Rattle.sym_path.specs.declared.path.PathEnd.{PathEnd}
use Rattle.sym_path.specs.declared.path.PathEnd.TheVariants.{Next, Ended}
use Rattle.sym_run.specs.Chained.{Chained}
use Rattle.sym_run.specs.Chains.{chain_of}
use Rattle.sym_run.specs.Runs.{added}
use Rattle.sym_run.specs.declared.saved.Saved.{Saved}
use Rattle.sym_file.specs.Making.{facts_of, line_of, number_of, set_of, span_of}
use Rattle.sym_file.specs.Texts.{line_end}
use Rattle.sym_file.specs.declared.saved_err.SavedErr.{SavedErr}
use Rattle.sym_file.specs.declared.saved_err.SavedErr.TheVariants as error

-- What was read, and the bytes after it.
abbrev pub Read : Type 0 → Type 0
Read A = Option (A × List ℕ)

infixl 10 ◌>>=◌
abbrev pub ◌>>=◌ : {A B : Type 0} → Option A → (A → Option B) → Option B
(Some x) >>= f = f x
None >>= f = None

-- What a function returned, seen by `view`, is what reading gives, unless memory ran out.
abbrev pub Fails : {Y : Type 0} → SavedErr → Option Y → Type 0
Fails error.OtherScript read = ⊥
Fails error.Malformed read = read ≡ None
Fails error.NoMemory read = Unit {0}

abbrev pub Gives : {X Y : Type 0} → (X → Y) → Result X SavedErr → Option Y → Type 0
Gives view (Ok x) read = read ≡ Some (view x)
Gives view (Err e) read = Fails e read

-- The bytes after this text.
unfoldable pub after : List ℕ → List ℕ → Option (List ℕ)
after [] bytes = Some bytes
after (c ∷ text) [] = None
after (c ∷ text) (b ∷ bytes) = if c == b then after text bytes else None

-- ---- numbers

abbrev pub is_digit : ℕ → Bool
is_digit b = nat_le 48 b && nat_le b 57

-- A number that begins with n, and at most `room` digits more.
unfoldable pub digits_at : ℕ → ℕ → List ℕ → Read ℕ
digits_at room n [] = Some (n, [])
digits_at zero n (b ∷ bytes) = if is_digit b then None else Some (n, b ∷ bytes)
digits_at (suc room) n (b ∷ bytes) =
    if is_digit b then digits_at room (10 * n + (b - 48)) bytes else Some (n, b ∷ bytes)

-- A number of at most 38 digits, which fits 127 bits.
unfoldable pub nat_at : List ℕ → Read ℕ
nat_at [] = None
nat_at (b ∷ bytes) =
    if b == 48 then Some (0, bytes)
    else if is_digit b then digits_at 37 (b - 48) bytes else None

abbrev pub opposite : ℕ → List ℕ → Read ℤ
opposite zero rest = None
opposite (suc n) rest = Some (negsuc n, rest)

-- A number that isn't 0, after its sign.
abbrev pub opposite_at : List ℕ → Read ℤ
opposite_at bytes = nat_at bytes >>= λ n. opposite n.0 n.1

unfoldable pub int_at : List ℕ → Read ℤ
int_at [] = None
int_at (b ∷ bytes) =
    if b == 45
    then opposite_at bytes
    else (nat_at (b ∷ bytes) >>= λ n. Some (pos n.0, n.1))

-- A number below a limit.
unfoldable pub below_at : ℕ → List ℕ → Read ℕ
below_at limit bytes = do
  n ← nat_at bytes
  if nat_lt n.0 limit then Some n else None

-- A number of at most 10^12 in size.
abbrev pub small_of : ℤ → Option ℤ
small_of x = if nat_le (unsigned_abs x) num_max then Some x else None

unfoldable pub small_at : List ℕ → Read ℤ
small_at bytes = do
  x ← int_at bytes
  number ← small_of x.0
  Some (number, x.1)

-- ---- lists

-- So many items.
unfoldable pub many : {A : Type 0} → (List ℕ → Read A) → ℕ → List ℕ → Read (List A)
many item zero bytes = Some ([], bytes)
many item (suc n) bytes = do
  first ← item bytes
  others ← many item n first.1
  Some (first.0 ∷ others.0, others.1)

-- An item for each of these.
unfoldable pub each : {K A : Type 0} → (K → List ℕ → Read A) → List K → List ℕ → Read (List A)
each item [] bytes = Some ([], bytes)
each item (k ∷ ks) bytes = do
  first ← item k bytes
  others ← each item ks first.1
  Some (first.0 ∷ others.0, others.1)

-- An item after a space.
abbrev pub apart : {A : Type 0} → (List ℕ → Read A) → List ℕ → Read A
apart item bytes = after (codes " ") bytes >>= item

-- ---- values

abbrev pub text_of : List ℕ → List ℕ → Read (List ℕ)
text_of text rest = if is_utf8 text then Some (text, rest) else None

unfoldable pub counted_at : List ℕ → Read (List ℕ)
counted_at bytes = do
  n ← nat_at bytes
  rest ← after (codes ":") n.1
  if nat_lt (length rest) n.0 then None else text_of (take n.0 rest) (drop n.0 rest)

unfoldable pub word_at : List ℕ → Read (List ℕ)
word_at bytes = after (codes "w") bytes >>= counted_at

unfoldable pub value_at : List ℕ → Read Value
value_at [] = None
value_at (b ∷ bytes) =
    if b == 110 then (small_at bytes >>= λ x. Some (value.Num x.0, x.1))
    else if b == 108 then (below_at 256 bytes >>= λ l. Some (value.Label l.0, l.1))
    else if b == 119 then (counted_at bytes >>= λ t. Some (value.Word t.0, t.1))
    else None

abbrev pub values_at : ℕ → List ℕ → Read (List Value)
values_at count bytes = many (apart value_at) count bytes

-- ---- what is known of the cells

-- How many arguments a test takes beside so many parts of a hold cell.
abbrev pub arguments_in : ℕ → Option TestOf → ℕ
arguments_in parts None = 0
arguments_in parts (Some called) = length called.params - parts

abbrev pub chosen : Option (List ℕ) → Option (List ℕ) → Read Bool
chosen (Some rest) other = Some (true, rest)
chosen None other = other >>= λ rest. Some (false, rest)

unfoldable pub outcome_at : List ℕ → Read Bool
outcome_at bytes = chosen (after (codes " yes") bytes) (after (codes " no") bytes)

unfoldable pub literal_at : ScriptPlan → ℕ → List ℕ → Read Literal
literal_at p parts bytes = do
  rest ← after (codes "t") bytes
  test ← below_at (2 ^ 16) rest
  outcome ← outcome_at test.1
  args ← values_at (arguments_in parts (slice_get p.tests test.0)) outcome.1
  Some (record { test = test.0; args = args.0; outcome = outcome.0 }, args.1)

unfoldable pub set_at : List ℕ → Read Part
set_at bytes = do
  rest ← after (codes "e") bytes
  n ← nat_at rest
  set ← set_of n.0
  Some (part.Set set, n.1)

unfoldable pub span_at : List ℕ → Read Part
span_at bytes = do
  rest ← after (codes "i") bytes
  lo ← small_at rest
  rest ← after (codes "..") lo.1
  hi ← small_at rest
  span ← span_of lo.0 hi.0
  Some (part.Span span, hi.1)

-- So many literals, which are facts.
abbrev pub facts_in : ScriptPlan → ℕ → ℕ → List ℕ → Read Part
facts_in p parts count bytes = do
  literals ← many (apart (literal_at p parts)) count bytes
  known ← facts_of literals.0
  Some (part.Facts known, literals.1)

unfoldable pub facts_at : ScriptPlan → ℕ → List ℕ → Read Part
facts_at p parts bytes = do
  rest ← after (codes "f") bytes
  n ← nat_at rest
  facts_in p parts n.0 n.1

abbrev pub free_at : List ℕ → Read Part
free_at bytes = after (codes "v") bytes >>= λ rest. Some (part.Free, rest)

unfoldable pub part_at : ScriptPlan → CellPlan → List ℕ → Read Part
part_at p (plan.Enum of first) bytes = set_at bytes
part_at p (plan.Int lo hi first clamp) bytes = span_at bytes
part_at p (plan.Hold kinds first) bytes = facts_at p (length kinds) bytes
part_at p (plan.Nums lo hi clamp) bytes = free_at bytes
part_at p plan.Words bytes = free_at bytes

-- ---- what becomes of the cells

abbrev pub constant_at : List ℕ → Read IntForm
constant_at bytes = do
  x ← small_at bytes
  n ← number_of x.0
  Some (number.Const n, x.1)

abbrev pub line_at : List ℕ → Read IntForm
line_at bytes = do
  cell ← below_at (2 ^ 16) bytes
  rest ← after (codes ",") cell.1
  a ← int_at rest
  rest ← after (codes ",") a.1
  b ← int_at rest
  line ← line_of cell.0 a.0 b.0
  Some (number.Line line, b.1)

unfoldable pub number_at : List ℕ → Read IntForm
number_at [] = None
number_at (b ∷ bytes) =
    if b == 110 then constant_at bytes else if b == 120 then line_at bytes else None

unfoldable pub label_form_at : List ℕ → Read Form
label_form_at [] = None
label_form_at (b ∷ bytes) =
    if b == 99 then (below_at 256 bytes >>= λ l. Some (form.Enum (label.Const l.0), l.1))
    else if b == 107 then (below_at (2 ^ 16) bytes >>= λ c. Some (form.Enum (label.Copy c.0), c.1))
    else None

unfoldable pub hold_form_at : ℕ → List ℕ → Read Form
hold_form_at parts [] = None
hold_form_at parts (b ∷ bytes) =
    if b == 104 then (values_at parts bytes >>= λ vs. Some (form.Hold (hold.Const vs.0), vs.1))
    else if b == 107 then (below_at (2 ^ 16) bytes >>= λ c. Some (form.Hold (hold.Copy c.0), c.1))
    else None

-- The elements that are added to a list.
unfoldable pub added_at : {A : Type 0} → (List ℕ → Read A) → List ℕ → Read (List A)
added_at item bytes = do
  rest ← after (codes "a") bytes
  n ← nat_at rest
  many (apart item) n.0 n.1

unfoldable pub form_at : CellPlan → List ℕ → Read Form
form_at (plan.Enum of first) bytes = label_form_at bytes
form_at (plan.Int lo hi first clamp) bytes = number_at bytes >>= λ f. Some (form.Int f.0, f.1)
form_at (plan.Hold kinds first) bytes = hold_form_at (length kinds) bytes
form_at (plan.Nums lo hi clamp) bytes =
    added_at number_at bytes >>= λ added. Some (form.Nums added.0, added.1)
form_at plan.Words bytes = added_at word_at bytes >>= λ added. Some (form.Words added.0, added.1)

-- ---- paths

abbrev pub next_at : ScriptPlan → List ℕ → Read PathEnd
next_at p bytes = do
  rest ← after (codes "next") bytes
  forms ← each (λ cell. apart (form_at cell)) p.cells rest
  Some (Next forms.0, forms.1)

abbrev pub over_at : List ℕ → Read PathEnd
over_at bytes = do
  rest ← after (codes "over ") bytes
  cell ← below_at (2 ^ 16) rest
  rest ← after (codes " ") cell.1
  n ← below_at (2 ^ 64) rest
  Some (Ended (record { kind = fault.Over cell.0; no = n.0 }), n.1)

abbrev pub arith_at : List ℕ → Read PathEnd
arith_at bytes = do
  rest ← after (codes "arith ") bytes
  n ← below_at (2 ^ 64) rest
  Some (Ended (record { kind = fault.Arith; no = n.0 }), n.1)

unfoldable pub end_at : ScriptPlan → List ℕ → Read PathEnd
end_at p [] = None
end_at p (b ∷ bytes) =
    if b == 110 then next_at p (b ∷ bytes)
    else if b == 111 then over_at (b ∷ bytes) else arith_at (b ∷ bytes)

unfoldable pub path_at : ScriptPlan → List ℕ → Read Path
path_at p bytes = do
  rest ← after (codes "when") bytes
  parts ← each (λ cell. apart (part_at p cell)) p.cells rest
  rest ← after line_end parts.1
  end ← end_at p rest
  rest ← after line_end end.1
  Some (record { when = parts.0; end = end.0 }, rest)

-- ---- segments, chains and groups

-- A word, a number and the end of the line, and then so many items.
unfoldable pub listed_at : {A : Type 0} → List ℕ → (List ℕ → Read A) → List ℕ → Read (List A)
listed_at word item bytes = do
  rest ← after word bytes
  n ← nat_at rest
  rest ← after line_end n.1
  many item n.0 rest

unfoldable pub segment_at : ScriptPlan → List ℕ → Read (List Path)
segment_at p bytes = listed_at (codes "segment ") (path_at p) bytes

-- So many segments, of which there is one at least.
abbrev pub chain_in : ScriptPlan → ℕ → List ℕ → Read Chained
chain_in p count bytes = do
  segments ← many (segment_at p) count bytes
  chain ← chain_of segments.0
  Some (chain, segments.1)

unfoldable pub chain_at : ScriptPlan → List ℕ → Read Chained
chain_at p bytes = do
  segments ← listed_at (codes "chain ") (segment_at p) bytes
  chain ← chain_of segments.0
  Some (chain, segments.1)

unfoldable pub key_at : ScriptPlan → List ℕ → Read Key
key_at p bytes = do
  rest ← after (codes "key") bytes
  values ← values_at (length p.group) rest
  rest ← after line_end values.1
  Some (record { values = values.0 }, rest)

unfoldable pub group_at : ScriptPlan → List ℕ → Read (Key × Chained)
group_at p bytes = do
  key ← key_at p bytes
  chain ← chain_at p key.1
  Some ((key.0, chain.0), chain.1)

-- So many groups, after those that are there; none where a key stands twice.
unfoldable pub groups_at : ScriptPlan → ℕ → List (Key × Chained) → List ℕ
    → Read (List (Key × Chained))
groups_at p zero groups bytes = Some (groups, bytes)
groups_at p (suc n) groups bytes = do
  group ← group_at p bytes
  more ← added groups group.0.0 group.0.1
  groups_at p n more group.1

-- ---- the file

-- The script, and the bytes after it.
unfoldable pub script_at : List ℕ → Read (List ℕ)
script_at bytes = do
  rest ← after (codes "symple run 1\nscript ") bytes
  n ← nat_at rest
  rest ← after line_end n.1
  if nat_lt (length rest) n.0 then None else Some (take n.0 rest, drop n.0 rest)

abbrev pub at_end : Saved → List ℕ → Option Saved
at_end saved [] = Some saved
at_end saved (b ∷ bytes) = None

-- The numbers of the first record, of the one after the last, and of the groups.
unfoldable pub head_at : List ℕ → Read (ℕ × ℕ × ℕ)
head_at bytes = do
  rest ← after (codes "first ") bytes
  first ← below_at (2 ^ 64) rest
  rest ← after (codes "\nnext ") first.1
  next ← below_at (2 ^ 64) rest
  rest ← after (codes "\ngroups ") next.1
  n ← nat_at rest
  rest ← after line_end n.1
  Some ((first.0, next.0, n.0), rest)

-- The saved run, all of the bytes.
unfoldable pub body_at : ScriptPlan → List ℕ → Option Saved
body_at p bytes = do
  head ← head_at bytes
  groups ← groups_at p head.0.2 [] head.1
  rest ← after (codes "end\n") groups.1
  at_end (record { first = head.0.0; next = head.0.1; groups = groups.0 }) rest
