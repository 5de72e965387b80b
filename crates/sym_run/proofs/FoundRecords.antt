-- The records of neighbouring chunks, or the first of their rows that is none.
use Rattle.std.proofs.Common.{◌≡◌, ◌∙◌, ap, ap₂, sym, refl, subst, arith, ℕ, false, is_some, ◌+◌, ◌-◌, ◌≤◌, List, [], ◌∷◌, ◌++◌, Option, Some, None, Result, Ok, Err, length, take, drop}
use Rattle.std.proofs.lemmas.List.Elements.{All-head, All-nil, All-tail}
use Rattle.std.proofs.Math.Seq.{take-add}
use Rattle.std.proofs.lemmas.List.{append-nil, append_assoc, drop-drop}
use Rattle.std.specs.List.{All}
use Rattle.std.specs.Option.{option_or}
use Rattle.std.specs.Prelude.{slice_get, slice_range}
use Rattle.std.proofs.lemmas.Option.{slice_get_within}
use Rattle.sym_base.specs.declared.values.value.Key.{Key}
use Rattle.sym_base.specs.declared.values.record.Record.{Record}
use Rattle.sym_check.specs.Plan.ScriptPlans.{ScriptPlan}
use Rattle.sym_run.specs.Chained.{Chained}
use Rattle.sym_table.specs.declared.bad.Bad.{Bad}
use Rattle.sym_table.specs.declared.chunk.Chunk.{Chunk}
use Rattle.sym_table.specs.declared.header.Header.{Header}
use Rattle.sym_table.specs.ChunkRecords.{RunOn, all_records, all_rows, chunk_records}
use Rattle.sym_table.specs.RowRecords.{in_turn, records_or_bad}
use Rattle.sym_table.proofs.RecordsAgree.{rows_append}
use Rattle.sym_path.proofs.Lists.{drop_get, take_get}
use Rattle.sym_run.specs.declared.runs.Run.{Run}
use Rattle.sym_run.specs.declared.opened.Open.{Open}
use Rattle.sym_run.specs.Growing.{TakesOn}
use Rattle.sym_run.specs.Kinds.{EachFits, EachIsTight, EachStandsFor, Kind}
use Rattle.sym_run.specs.Opened.{OpenGroupsAreTight, OpenGroupsFit, open_kind}
use Rattle.sym_run.specs.Runs.{AreTight, GroupsFit, GroupsStandFor, HasFound, HaveFound, IsFromTo, StandForChunks, StandsForChunks, chain_kind}

abbrev Found : Type 0
Found = Result (List Record) Bad

none_first : (r : Found) → r ≡ in_turn (Ok []) r
none_first (Ok found) = refl
none_first (Err bad) = refl

pub none_after : (r : Found) → in_turn r (Ok []) ≡ r
none_after (Ok found) = ap Ok (append-nil found)
none_after (Err bad) = refl

in_turn_assoc : (x y z : Found) → in_turn x (in_turn y z) ≡ in_turn (in_turn x y) z
in_turn_assoc (Err bad) y z = refl
in_turn_assoc (Ok first) (Err bad) z = refl
in_turn_assoc (Ok first) (Ok next) (Err bad) = refl
in_turn_assoc (Ok first) (Ok next) (Ok rest) = ap Ok (sym (append_assoc first next rest))

-- The records of some chunks and more.
pub all_records-append : (p : ScriptPlan) (xs ys : List Chunk) → all_records p (xs ++ ys) ≡ in_turn (all_records p xs) (all_records p ys)
all_records-append p [] ys = none_first (all_records p ys)
all_records-append p (x ∷ xs) ys =
    ap (in_turn (chunk_records p x)) (all_records-append p xs ys) ∙ in_turn_assoc (chunk_records p x) (all_records p xs) (all_records p ys)

-- The records of chunks that run on are those of their rows.
pub all_records-rows : (p : ScriptPlan) (header : Header) (n : ℕ) (chunks : List Chunk) → All (λ (chunk : Chunk). chunk.header ≡ header) chunks → RunOn n chunks → all_records p chunks ≡ records_or_bad p header n (all_rows chunks)
all_records-rows p header n [] headers numbers = refl
all_records-rows p header n (x ∷ xs) headers numbers =
    let first : chunk_records p x ≡ records_or_bad p header n x.rows =
    ap (λ h. records_or_bad p h x.first_no x.rows) (All-head (λ (chunk : Chunk). chunk.header ≡ header) x xs headers)
    ∙ ap (λ m. records_or_bad p header m x.rows) numbers.0 in
    ap (λ found. in_turn found (all_records p xs)) first
    ∙ ap (in_turn (records_or_bad p header n x.rows)) (all_records-rows p header (n + length x.rows) xs (All-tail (λ (chunk : Chunk). chunk.header ≡ header) x xs headers) numbers.1)
    ∙ sym (rows_append p header n x.rows (all_rows xs))

-- Two neighbouring parts of a list in one.
ranges : {A : Type 0} (xs : List A) (lo mid hi : ℕ) → lo ≤ mid → mid ≤ hi → slice_range xs lo hi ≡ slice_range xs lo mid ++ slice_range xs mid hi
ranges xs lo mid hi first rest =
    let whole : hi - lo ≡ (mid - lo) + (hi - mid) = omega arith in
    let there : lo + (mid - lo) ≡ mid = omega arith in
    ap (λ n. take n (drop lo xs)) whole
    ∙ take-add (mid - lo) (hi - mid) (drop lo xs)
    ∙ ap (λ ys. take (mid - lo) (drop lo xs) ++ take (hi - mid) ys) (drop-drop (mid - lo) lo xs ∙ ap (λ n. drop n xs) there)

pub found_in_turn : (p : ScriptPlan) (chunks : List Chunk) (lo mid hi : ℕ) → lo ≤ mid → mid ≤ hi
    → all_records p (slice_range chunks lo hi) ≡ in_turn (all_records p (slice_range chunks lo mid)) (all_records p (slice_range chunks mid hi))
found_in_turn p chunks lo mid hi first rest =
    ap (all_records p) (ranges chunks lo mid hi first rest) ∙ all_records-append p (slice_range chunks lo mid) (slice_range chunks mid hi)

-- Neither of two runs has a bad row, where none is the first.
pub both_none : (bad next : Option Bad) → is_some (option_or bad next) ≡ false → (bad ≡ None) × (next ≡ None)
both_none None None e = (refl, refl)
both_none None (Some b) e = cc
both_none (Some b) next e = cc

-- What two runs found, in one: the first bad row of the left, or else of the right, or the joined groups.
pub found_joined : (p : ScriptPlan) (limit : ℕ) (found others : Result (List Record) Bad) (bad next : Option Bad) (left right groups : List (Key × Chained))
    → HasFound p limit found bad left → HasFound p limit others next right
    → (bad ≡ None → next ≡ None → AreTight p limit groups)
    → (bad ≡ None → next ≡ None → (first rest : List Record) → GroupsStandFor p first left → GroupsStandFor p rest right → GroupsStandFor p (first ++ rest) groups)
    → HasFound p limit (in_turn found others) (option_or bad next) groups
found_joined p limit (Ok first) (Ok rest) bad next left right groups h k tight stand =
    (ap (λ (b : Option Bad). option_or b next) h.0 ∙ k.0, tight h.0 k.0, stand h.0 k.0 first rest h.2 k.2)
found_joined p limit (Ok first) (Err other) bad next left right groups h k tight stand = ap (λ (b : Option Bad). option_or b next) h.0 ∙ k
found_joined p limit (Err first) others bad next left right groups h k tight stand = ap (λ (b : Option Bad). option_or b next) h

-- The run of two neighbouring ones.
pub run_joined : (p : ScriptPlan) (limit : ℕ) (chunks : List Chunk) (left right joined : Run) → left.hi ≡ right.lo → StandsForChunks p limit chunks left → StandsForChunks p limit chunks right
    → IsFromTo left.lo right.hi joined → joined.bad ≡ option_or left.bad right.bad → GroupsFit p joined.groups
    → (left.bad ≡ None → right.bad ≡ None → AreTight p limit joined.groups)
    → (left.bad ≡ None → right.bad ≡ None → (first rest : List Record) → GroupsStandFor p first left.groups → GroupsStandFor p rest right.groups → GroupsStandFor p (first ++ rest) joined.groups)
    → StandsForChunks p limit chunks joined
run_joined p limit chunks left right joined meet h k ends bad fits tight stand =
    let first : left.lo ≤ left.hi = h.order in
    let rest : left.hi ≤ right.hi = subst (λ (n : ℕ). n ≤ right.hi) (sym meet) k.order in
    let whole : all_records p (slice_range chunks joined.lo joined.hi) ≡ in_turn (all_records p (slice_range chunks left.lo left.hi)) (all_records p (slice_range chunks right.lo right.hi)) =
    ap₂ (λ (lo hi : ℕ). all_records p (slice_range chunks lo hi)) ends.from ends.to
    ∙ found_in_turn p chunks left.lo left.hi right.hi first rest
    ∙ ap (λ (mid : ℕ). in_turn (all_records p (slice_range chunks left.lo left.hi)) (all_records p (slice_range chunks mid right.hi))) meet in
    record {
      order = rw (ends.from, ends.to) (omega arith);
      within = rw ends.to k.within;
      fits = fits;
      found =
          subst (λ (found : Result (List Record) Bad). HasFound p limit found joined.bad joined.groups) (sym whole)
          (subst (λ (b : Option Bad). HasFound p limit (in_turn (all_records p (slice_range chunks left.lo left.hi)) (all_records p (slice_range chunks right.lo right.hi))) b joined.groups) (sym bad)
          (found_joined p limit (all_records p (slice_range chunks left.lo left.hi)) (all_records p (slice_range chunks right.lo right.hi)) left.bad right.bad left.groups right.groups joined.groups
          h.found k.found tight stand));
    }

-- What no chunks come to.
pub found_none : {C : Type 0} (kind : Kind C) (p : ScriptPlan) (limit : ℕ) (chunks : List Chunk) (n : ℕ) → n ≤ length chunks → StandForChunks kind p limit chunks n n [] None
found_none kind p limit chunks n within =
    let nothing : n - n ≡ 0 = omega arith in
    let part : slice_range chunks n n ≡ [] = ap (λ (m : ℕ). take m (drop n chunks)) nothing in
    record {
      order = omega arith;
      within = within;
      fits = All-nil _;
      found = subst (λ (r : Result (List Record) Bad). HaveFound kind p limit r None []) (sym (ap (all_records p) part)) (refl, All-nil _, record { keys_are = refl; each = All-nil _ });
    }

-- The run of no chunks.
pub run_of_none : (p : ScriptPlan) (limit : ℕ) (chunks : List Chunk) (n : ℕ) (run : Run) → n ≤ length chunks → IsFromTo n n run → run.groups ≡ [] → run.bad ≡ None → StandsForChunks p limit chunks run
run_of_none p limit chunks n run within ends none bad =
    let from = ends.from in
    let to = ends.to in
    rw (from, to, none, bad) (found_none chain_kind p limit chunks n within)

-- What groups found that go on over rows, where no row before them is bad, and where one is.
found_on : (p : ScriptPlan) (limit : ℕ) (found next : Result (List Record) Bad) (bad last : Option Bad) (old groups : List (Key × Open))
    → HaveFound open_kind p limit found bad old → (bad ≡ None → TakesOn p limit next old last groups) → ((b : Bad) → bad ≡ Some b → last ≡ Some b) → HaveFound open_kind p limit (in_turn found next) last groups
found_on p limit (Ok first) (Ok rest) bad last old groups h takes stays = let k = takes h.0 in (k.0, k.1, k.2 first h.2)
found_on p limit (Ok first) (Err other) bad last old groups h takes stays = takes h.0
found_on p limit (Err first) next bad last old groups h takes stays = stays first h

-- Some chunks and the one after them.
pub found_extended : (p : ScriptPlan) (limit : ℕ) (chunks : List Chunk) (c : Chunk) (lo hi : ℕ) (old groups : List (Key × Open)) (bad last : Option Bad) → StandForChunks open_kind p limit chunks lo hi old bad → slice_get chunks hi ≡ Some c
    → OpenGroupsFit p groups → (bad ≡ None → TakesOn p limit (chunk_records p c) old last groups) → ((b : Bad) → bad ≡ Some b → last ≡ Some b)
    → StandForChunks open_kind p limit chunks lo (hi + 1) groups last
found_extended p limit chunks c lo hi old groups bad last h at fits takes stays =
    let within = slice_get_within chunks hi c at in
    let order = h.order in
    let one : (hi + 1) - hi ≡ 1 = omega arith in
    let part : slice_range chunks hi (hi + 1) ≡ c ∷ [] = ap₂ (λ (m : ℕ) (cs : List Chunk). take m cs) one (drop_get chunks hi c at) in
    let whole : all_records p (slice_range chunks lo (hi + 1)) ≡ in_turn (all_records p (slice_range chunks lo hi)) (chunk_records p c) =
    found_in_turn p chunks lo hi (hi + 1) order (omega arith)
    ∙ ap (in_turn (all_records p (slice_range chunks lo hi))) (ap (all_records p) part ∙ none_after (chunk_records p c)) in
    record {
      order = omega arith;
      within = omega arith;
      fits = fits;
      found = subst (λ (r : Result (List Record) Bad). HaveFound open_kind p limit r last groups) (sym whole)
          (found_on p limit (all_records p (slice_range chunks lo hi)) (chunk_records p c) bad last old groups h.found takes stays);
    }

-- What groups of one form found, groups of another form found that fit, are tight and stand for what
-- the former stand for.
found_as : {C D : Type 0} (kind : Kind C) (other : Kind D) (p : ScriptPlan) (limit : ℕ) (found : Result (List Record) Bad) (bad : Option Bad) (old : List (Key × C)) (new : List (Key × D))
    → HaveFound kind p limit found bad old → (bad ≡ None → EachIsTight kind p limit old → EachIsTight other p limit new)
    → (bad ≡ None → (records : List Record) → EachStandsFor kind p records old → EachStandsFor other p records new) → HaveFound other p limit found bad new
found_as kind other p limit (Ok records) bad old new h tight stand = (h.0, tight h.0 h.1, stand h.0 records h.2)
found_as kind other p limit (Err first) bad old new h tight stand = h

pub stand_as : {C D : Type 0} (kind : Kind C) (other : Kind D) (p : ScriptPlan) (limit : ℕ) (chunks : List Chunk) (lo hi : ℕ) (old : List (Key × C)) (new : List (Key × D)) (bad : Option Bad)
    → StandForChunks kind p limit chunks lo hi old bad → EachFits other p new → (bad ≡ None → EachIsTight kind p limit old → EachIsTight other p limit new)
    → (bad ≡ None → (records : List Record) → EachStandsFor kind p records old → EachStandsFor other p records new) → StandForChunks other p limit chunks lo hi new bad
stand_as kind other p limit chunks lo hi old new bad h fits tight stand = record {
  order = h.order;
  within = h.within;
  fits = fits;
  found = found_as kind other p limit (all_records p (slice_range chunks lo hi)) bad old new h.found tight stand;
}

-- The chains of a run without a bad row are tight.
pub run_tight : (p : ScriptPlan) (limit : ℕ) (chunks : List Chunk) (run : Run) → StandsForChunks p limit chunks run → run.bad ≡ None → AreTight p limit run.groups
run_tight p limit chunks run h none = of (all_records p (slice_range chunks run.lo run.hi)) h.found
  where
    of : (found : Result (List Record) Bad) → HasFound p limit found run.bad run.groups → AreTight p limit run.groups
    of (Ok records) found = found.1
    of (Err bad) found = let other : Some bad ≡ None = sym found ∙ none in absurd (cc)

-- Groups that have taken on rows, none of which is bad, are tight.
pub taken_tight : (p : ScriptPlan) (limit : ℕ) (found : Result (List Record) Bad) (bad : Option Bad) (old new : List (Key × Open)) → TakesOn p limit found old bad new → bad ≡ None → OpenGroupsAreTight p limit new
taken_tight p limit (Ok records) bad old new h none = h.1
taken_tight p limit (Err first) bad old new h none = let other : Some first ≡ None = sym h ∙ none in absurd (cc)

-- ---- chunks whose rows are all records
pub in_turn_ok : (x y : Found) (records : List Record) → in_turn x y ≡ Ok records → (first : List Record) × (rest : List Record) × (x ≡ Ok first) × (y ≡ Ok rest) × (records ≡ first ++ rest)
in_turn_ok (Ok first) (Ok rest) records e = (first, rest, refl, refl, let same : first ++ rest ≡ records = cc in sym same)
in_turn_ok (Ok first) (Err bad) records e = absurd (cc)
in_turn_ok (Err bad) y records e = absurd (cc)

pub records_more : (p : ScriptPlan) (chunks : List Chunk) (n : ℕ) (c : Chunk) → slice_get chunks n ≡ Some c → all_records p (take (n + 1) chunks) ≡ in_turn (all_records p (take n chunks)) (chunk_records p c)
records_more p chunks n c at =
    ap (all_records p) (take_get chunks n c at) ∙ all_records-append p (take n chunks) (c ∷ [])
    ∙ ap (in_turn (all_records p (take n chunks))) (none_after (chunk_records p c))

-- Their run has no bad row.
pub run_good : (p : ScriptPlan) (limit : ℕ) (chunks : List Chunk) (n : ℕ) (run : Run) (records : List Record) → StandsForChunks p limit chunks run → IsFromTo 0 n run → all_records p (take n chunks) ≡ Ok records → run.bad ≡ None
run_good p limit chunks n run records h ends all =
    let whole : n - 0 ≡ n = omega arith in
    let part : slice_range chunks 0 n ≡ take n chunks = ap (λ (m : ℕ). take m (drop 0 chunks)) whole in
    let same : all_records p (slice_range chunks run.lo run.hi) ≡ Ok records =
    ap₂ (λ (lo hi : ℕ). all_records p (slice_range chunks lo hi)) ends.from ends.to ∙ ap (all_records p) part ∙ all in
    let found : HasFound p limit (Ok records) run.bad run.groups = subst (λ (r : Found). HasFound p limit r run.bad run.groups) same h.found in
    found.0
