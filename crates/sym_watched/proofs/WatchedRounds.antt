-- A round whose partial is published.
use Rattle.std.proofs.Common.{◌≡◌, ◌∙◌, refl, sym, ap, subst, ℕ, zero, suc, ◌+◌, ◌<◌, ◌≤◌, inl, arith, append-nil, List, [], ◌∷◌, ◌++◌, length, length-append, map, take, get_or, Option, None, Some, Result, Ok, Err}
use Rattle.std.specs.Result.{IsErr}
use Rattle.std.proofs.lemmas.Grind.{flat_map-append}
use Rattle.sym_base.specs.Trees.{ScriptTree}
use Rattle.sym_base.specs.declared.values.memory.NoMemory.{NoMemory}
use Rattle.sym_base.specs.declared.values.record.Record.{Record}
use Rattle.sym_base.specs.declared.values.value.Key.{Key}
use Rattle.sym_base.specs.declared.values.state.Outcome.{Outcome}
use Rattle.sym_check.specs.Meaning.Groups.{pass}
use Rattle.sym_check.specs.Plan.ScriptPlans.{ScriptPlan}
use Rattle.sym_plain.specs.Shown.{last}
use Rattle.sym_report.specs.Appending.{listed}
use Rattle.sym_report.specs.ReportRows.{row_of}
use Rattle.sym_report.specs.declared.rows.Row.{Row as ReportRow}
use Rattle.sym_table.specs.declared.bad.Bad.{Bad}
use Rattle.sym_table.specs.declared.chunk.Chunk.{Chunk}
use Rattle.sym_table.specs.Reading.{Row}
use Rattle.sym_watch.specs.declared.partial.Partial.{Partial}
use Rattle.sym_watch.specs.Logs.{Log}
use Rattle.sym_watch.specs.Partials.{MayFollow}
use Rattle.sym_watch.proofs.Rising.{last_more}
use Rattle.sym_files.specs.declared.rounds.Took.{Took}
use Rattle.sym_files.specs.declared.rounds.Took.TheVariants as took
use Rattle.sym_watched.specs.Partials.{AllGrew, AllGrewPart, partial_after, partials_of}
use Rattle.sym_files.specs.FileRounds.{rounds_records}
use Rattle.sym_files.specs.Rounds.{round_records}
use Rattle.sym_passes.specs.Passed.{AreLedBy}
use Rattle.sym_files.specs.Taking.{rows_of}
use Rattle.sym_passes.proofs.AppliedRuns.{Led}
use Rattle.sym_watched.specs.Watching.{IsAbove, IsWatched, Start, ToldAt, Watching, watching}
use Rattle.sym_files.specs.Telling.{HasTold, Tells, TellsRound}
use Rattle.sym_files.specs.Telling as point
use Rattle.sym_watched.proofs.Logs.{part_longer, part_whole, told_part, told_rest}
use Rattle.sym_watched.proofs.PartialLists.{partials_more}
use Rattle.sym_files.proofs.RoundLists.{Rounds, records_more}
use Rattle.sym_files.proofs.ToldRows.{round_many}

abbrev Pairs : Type 0
Pairs = List (Key × Outcome)

-- ---- borders
-- The next border isn't below the last one.
pub may_follow : (list now : List Partial) (border next : ℕ) (q : Partial) → now ≡ list → IsAbove list border → border ≤ next → q.upto ≡ next → MayFollow now q
may_follow list now border next q same above le is x e =
    let at = above x (ap last (sym same) ∙ e) in omega (arith, at, le, is)

-- The last border is that of the last partial.
pub above_new : (list now : List Partial) (q : Partial) (border : ℕ) → now ≡ list ++ q ∷ [] → q.upto ≡ border → IsAbove now border
above_new list now q border is upto x e =
    let both : ◌≡◌ {A = Option Partial} (Some q) (Some x) = sym (last_more list q) ∙ ap last (sym is) ∙ e in
    let same : q ≡ x = cc in omega (arith, upto, ap (λ (y : Partial). y.upto) same)

-- ---- the round is done
pub watched_on : (p plan : ScriptPlan) (read : Result (List Record) Bad) (old new : Pairs) (workers border next : ℕ) (list now : List Partial) → Led p read old new → IsAbove now next
    → (records : List Record) × (read ≡ Ok records) × ((before : List Record) → IsWatched p plan old workers border list before → IsWatched p plan new workers next now (before ++ records))
watched_on p plan read old new workers border next list now led above =
    (led.0, led.1, λ before w. record { passed = led.2 before w.passed; in_range = w.in_range; script = w.script; above = above })

partial_is : (tree : ScriptTree) (p plan : ScriptPlan) (groups : Pairs) (upto : ℕ) (records : List Record) → plan ≡ p → groups ≡ pass p records
    → upto ≡ length records → ◌≡◌ {A = Partial} (record { upto = upto; rows = map (row_of tree plan) groups }) (partial_after tree p records)
partial_is tree p plan groups upto records script passed border =
    ap (λ (q : ScriptPlan). record { upto = upto; rows = map (row_of tree q) groups }) script
    ∙ ap (λ (g : Pairs). record { upto = upto; rows = map (row_of tree p) g }) passed
    ∙ ap (λ (n : ℕ). record { upto = n; rows = map (row_of tree p) (pass p records) }) border

pub round_told : (p plan : ScriptPlan) (shown : Row → Row) (cuts : List Chunk) (start : Start) (before : Rounds) (was now : Watching) (some : List Record) (partial : Partial)
    → ToldAt p start was point.between before → AllGrew was.logs now.logs (listed was.untold)
    → AreLedBy p was.groups some → plan ≡ p → Led p (round_records p shown cuts) was.groups now.groups
    → now.border ≡ was.border + length (rows_of cuts) → now.tree ≡ was.tree
    → partial ≡ record { upto = now.border; rows = map (row_of now.tree plan) now.groups }
    → now.list ≡ was.list ++ partial ∷ [] → now.untold ≡ Some partial
    → TellsRound (ToldAt p start) (round_records p shown cuts) before now (Ok took.Done)
round_told p plan shown cuts start before was now some partial at grew passed script led border tree is list untold =
    let records = led.0 in
    let all = records_more before records in
    let same : now.tree ≡ start.tree = tree ∙ at.0.script in
    let old : AreLedBy p was.groups (rounds_records before) = record { passed = at.0.passed; valid = passed.valid } in
    let groups : now.groups ≡ pass p (rounds_records (before ++ records ∷ [])) = (led.2 (rounds_records before) old).passed ∙ ap (pass p) (sym all) in
    let count : now.border ≡ length (rounds_records (before ++ records ∷ [])) =
    omega (arith, border, at.0.border, round_many p shown cuts records led.1, ap length all, length-append (rounds_records before) records) in
    let here : partial ≡ partial_after start.tree p (rounds_records (before ++ records ∷ [])) =
    is
    ∙ ap (λ (t : ScriptTree). record { upto = now.border; rows = map (row_of t plan) now.groups }) same
    ∙ partial_is start.tree p plan now.groups now.border (rounds_records (before ++ records ∷ [])) script groups count in
    let new_list : now.list ≡ partials_of start.tree p (before ++ records ∷ []) =
    list
    ∙ ap (λ (l : List Partial). l ++ partial ∷ []) at.0.list
    ∙ ap (λ (q : Partial). partials_of start.tree p before ++ q ∷ []) here
    ∙ sym (partials_more start.tree p before records) in
    let told = told_rest start.logs was (partials_of start.tree p before) now.logs at.1 grew in (
      records,
      led.1,
      (
        record { script = same; passed = groups; border = count; list = new_list },
        (
          was.list,
          sym new_list ∙ list ∙ ap (λ (o : Option Partial). was.list ++ listed o) (sym untold),
          subst (λ (l : List Partial). AllGrew start.logs now.logs l) (sym at.0.list) told,
        ),
      ),
    )

-- A row of the round is no record.
pub round_told_bad : (p : ScriptPlan) (read : Result (List Record) Bad) (start : Start) (before : Rounds) (was now : Watching) (bad : Bad)
    → ToldAt p start was point.between before → AllGrew was.logs now.logs (listed was.untold) → read ≡ Err bad → now.untold ≡ None
    → TellsRound (ToldAt p start) read before now (Ok (took.Bad bad))
round_told_bad p read start before was now bad at grew broken untold = (
  broken,
  (
    partials_of start.tree p before,
    sym (append-nil (partials_of start.tree p before)) ∙ ap (λ (o : Option Partial). partials_of start.tree p before ++ listed o) (sym untold),
    told_rest start.logs was (partials_of start.tree p before) now.logs at.1 grew,
  ),
)

-- An allocation failed.
pub round_refused : (p : ScriptPlan) (read : Result (List Record) Bad) (start : Start) (before : Rounds) (was now : Watching) (e : NoMemory)
    → ToldAt p start was point.between before → AllGrewPart was.logs now.logs (listed was.untold)
    → TellsRound (ToldAt p start) read before now (Err e)
round_refused p read start before was now e at grew = inl (told_part start.logs was (partials_of start.tree p before) now.logs at.1 grew)

-- Nothing was told since.
pub part_same : (logs : List Log) (untold : Option Partial) (olds news : List Log) → AllGrew olds news [] → AllGrewPart olds news (listed untold)
part_same logs untold olds news same = part_longer [] (listed untold) olds news (part_whole [] olds news same)

-- ---- rows of chunks
taken_next : {A : Type 0} (xs : List A) (k : ℕ) (x : A) → k < length xs → x ≡ get_or xs k x → take (k + 1) xs ≡ take k xs ++ x ∷ []
taken_next [] k x h e = absurd (omega (arith, h))
taken_next (y ∷ ys) zero x h e = ap (λ z. z ∷ []) (sym e)
taken_next (y ∷ ys) (suc k) x h e =
    let more : suc k + 1 ≡ suc (k + 1) = omega arith in
    ap (λ m. take m (y ∷ ys)) more ∙ ap (λ zs. y ∷ zs) (taken_next ys k x (omega (arith, h)) e)

pub rows_next : (cuts : List Chunk) (k n next : ℕ) (cut : Chunk) → k < length cuts → cut ≡ get_or cuts k cut → n ≡ length (rows_of (take k cuts)) → next ≡ n + length cut.rows
    → next ≡ length (rows_of (take (k + 1) cuts))
rows_next cuts k n next cut h e before here =
    let rows : List Chunk → List Row = rows_of in
    let all = ap length (ap rows (taken_next cuts k cut h e) ∙ flat_map-append (λ (c : Chunk). c.rows) (take k cuts) (cut ∷ []) ∙ ap (λ r. rows_of (take k cuts) ++ r) (append-nil cut.rows)) in
    omega (arith, before, here, all, length-append (rows_of (take k cuts)) cut.rows)

-- ---- by what a pass has, part by part
-- An allocation failed.
pub round_fails : {S : Type 0} (told : Tells S) (read : Result (List Record) Bad) (before : Rounds) (new : S) (r : Result Took NoMemory)
    → IsErr r → told new point.at_refusal before → HasTold told read before new r
round_fails told read before new (Ok t) err at = absurd (cc)
round_fails told read before new (Err e) err at = at

-- What is so of the records of a round, by which they are.
pub of_records : (read : Result (List Record) Bad) (P : List Record → Type 0) → (records : List Record) × (read ≡ Ok records) × P records
    → (records : List Record) → read ≡ Ok records → P records
of_records read P found records is =
    let both : ◌≡◌ {A = Result (List Record) Bad} (Ok found.0) (Ok records) = sym found.1 ∙ is in
    let same : found.0 ≡ records = cc in subst P same found.2

pub part_of : (p : ScriptPlan) (start : Start) (before : Rounds) (tree : ScriptTree) (groups : Pairs) (border : ℕ) (list : List Partial) (untold : Option Partial) (logs laters : List Log)
    → ToldAt p start (watching tree groups border list untold logs) point.between before → AllGrewPart logs laters (listed untold)
    → AllGrewPart start.logs laters (partials_of start.tree p before)
part_of p start before tree groups border list untold logs laters at grew =
    told_part start.logs (watching tree groups border list untold logs) (partials_of start.tree p before) laters at.1 grew

pub bad_of_round : (p : ScriptPlan) (read : Result (List Record) Bad) (start : Start) (before : Rounds) (tree : ScriptTree) (groups : Pairs) (border : ℕ) (list : List Partial)
    (untold none : Option Partial) (logs laters : List Log) (bad : Bad)
    → ToldAt p start (watching tree groups border list untold logs) point.between before → AllGrew logs laters (listed untold) → read ≡ Err bad → none ≡ None
    → (read ≡ Err bad) × ((told : List Partial) × (partials_of start.tree p before ≡ told ++ listed none) × AllGrew start.logs laters told)
bad_of_round p read start before tree groups border list untold none logs laters bad at grew broken is =
    round_told_bad p read start before (watching tree groups border list untold logs) (watching tree groups border list none laters) bad at grew broken is

pub done_of_round : (p plan : ScriptPlan) (shown : Row → Row) (cuts : List Chunk) (start : Start) (before : Rounds) (tree : ScriptTree) (groups new_groups : Pairs) (border new_border : ℕ)
    (list new_list : List Partial) (untold new_untold : Option Partial) (logs laters : List Log) (some : List Record) (partial : Partial)
    → ToldAt p start (watching tree groups border list untold logs) point.between before → AllGrew logs laters (listed untold)
    → AreLedBy p groups some → plan ≡ p → Led p (round_records p shown cuts) groups new_groups → new_border ≡ border + length (rows_of cuts)
    → partial ≡ record { upto = new_border; rows = map (row_of tree plan) new_groups } → new_list ≡ list ++ partial ∷ [] → new_untold ≡ Some partial
    → (records : List Record) × (round_records p shown cuts ≡ Ok records) × ToldAt p start (watching tree new_groups new_border new_list new_untold laters) point.between (before ++ records ∷ [])
done_of_round p plan shown cuts start before tree groups new_groups border new_border list new_list untold new_untold logs laters some partial at grew passed script led ends is grows is_untold =
    round_told p plan shown cuts start before (watching tree groups border list untold logs) (watching tree new_groups new_border new_list new_untold laters) some partial
    at grew passed script led ends refl is grows is_untold

pub partial_rows : (upto : ℕ) (rows more : List ReportRow) → rows ≡ more → ◌≡◌ {A = Partial} (record { upto = upto; rows = rows }) (record { upto = upto; rows = more })
partial_rows upto rows more same = ap (λ (r : List ReportRow). record { upto = upto; rows = r }) same
