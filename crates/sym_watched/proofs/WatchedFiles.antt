-- What observers were told at the end of a watched pass.
use Rattle.std.proofs.Common.{◌≡◌, ◌∙◌, refl, sym, ap, subst, ℕ, inl, inr, append-nil, List, [], ◌++◌, length, Result, Ok, Err}
use Rattle.std.specs.Result.{IfErr, IfOk, OnOk}
use Rattle.sym_report.specs.Appending.{listed}
use Rattle.sym_watch.specs.declared.partial.Partial.{Partial}
use Rattle.sym_watch.specs.Logs.{Log}
use Rattle.sym_files.specs.declared.error.PassErr.{PassErr}
use Rattle.sym_files.specs.declared.error.PassErr.TheVariants as pass_err
use Rattle.sym_watched.specs.Partials.{AllGrew, AllGrewPart, ToldAll, ToldUntil, WatchedFiles, partials_of}
use Rattle.sym_files.specs.FileRounds.{OfBefore, OfFiles, OfSome, UntilStop}
use Rattle.sym_files.specs.FileRounds as files_are
use Rattle.sym_watched.specs.Watching.{AreTold, Start, ToldAt, Watching}
use Rattle.sym_files.specs.Telling.{Point, Tells, TellsAnywhere}
use Rattle.sym_files.specs.Telling as point
use Rattle.sym_watched.proofs.Logs.{part_longer, part_none, part_whole, told_part, told_rest}
use Rattle.sym_files.proofs.RoundLists.{Rounds}

-- ---- another fact of the same rounds
of_files_as : (w : WatchedFiles) (k : ℕ) (So Such : Rounds → Type 0) → ((r : Rounds) → So r → Such r) → OfFiles w k So → OfFiles w k Such
of_files_as w k So Such f o = record { rounds = o.rounds; done = o.done; so = f o.rounds o.so }

of_before_as : (w : WatchedFiles) (k n : ℕ) (So Such : Rounds → Type 0) → ((r : Rounds) → So r → Such r) → OfBefore w k n So → OfBefore w k n Such
of_before_as w k n So Such f o = record {
  rounds = o.rounds;
  done = o.done;
  others = o.others;
  full = o.full;
  begins = o.begins;
  within = o.within;
  so = f (o.rounds ++ o.others) o.so;
}

of_some_as : (w : WatchedFiles) (So Such : Rounds → Type 0) → ((r : Rounds) → So r → Such r) → OfSome w So → OfSome w Such
of_some_as w So Such f o = record {
  file = o.file;
  rounds = o.rounds;
  done = o.done;
  others = o.others;
  begins = o.begins;
  so = f (o.rounds ++ o.others) o.so;
}

some_of_files : (w : WatchedFiles) (k : ℕ) (So Such : Rounds → Type 0) → ((r : Rounds) → So r → Such r) → OfFiles w k So → OfSome w Such
some_of_files w k So Such f o = record {
  file = k;
  rounds = o.rounds;
  done = o.done;
  others = [];
  begins = inl refl;
  so = subst Such (sym (append-nil o.rounds)) (f o.rounds o.so);
}

some_of_before : (w : WatchedFiles) (k n : ℕ) (So Such : Rounds → Type 0) → ((r : Rounds) → So r → Such r) → OfBefore w k n So → OfSome w Such
some_of_before w k n So Such f o = record {
  file = k;
  rounds = o.rounds;
  done = o.done;
  others = o.others;
  begins = inr (record { begins = o.begins; done = inl o.full });
  so = f (o.rounds ++ o.others) o.so;
}

-- ---- the rest is told
-- The partials of all rounds.
abbrev Whole : WatchedFiles → Start → List Log → Rounds → Type 0
Whole w start laters r = AllGrew start.logs laters (partials_of start.tree w.plan r)

-- A prefix of them.
abbrev Part : WatchedFiles → Start → List Log → Rounds → Type 0
Part w start laters r = AllGrewPart start.logs laters (partials_of start.tree w.plan r)

whole_between : (w : WatchedFiles) (start : Start) (now : Watching) (laters : List Log) → AllGrew now.logs laters (listed now.untold)
    → (r : Rounds) → ToldAt w.plan start now point.between r → Whole w start laters r
whole_between w start now laters grew r at = told_rest start.logs now (partials_of start.tree w.plan r) laters at.1 grew

whole_at_bad : (w : WatchedFiles) (start : Start) (now : Watching) (laters : List Log) → AllGrew now.logs laters (listed now.untold)
    → (r : Rounds) → ToldAt w.plan start now point.at_bad r → Whole w start laters r
whole_at_bad w start now laters grew r at = told_rest start.logs now (partials_of start.tree w.plan r) laters at grew

part_between : (w : WatchedFiles) (start : Start) (now : Watching) (laters : List Log) → AllGrewPart now.logs laters (listed now.untold)
    → (r : Rounds) → ToldAt w.plan start now point.between r → Part w start laters r
part_between w start now laters grew r at = told_part start.logs now (partials_of start.tree w.plan r) laters at.1 grew

part_at_bad : (w : WatchedFiles) (start : Start) (now : Watching) (laters : List Log) → AllGrewPart now.logs laters (listed now.untold)
    → (r : Rounds) → ToldAt w.plan start now point.at_bad r → Part w start laters r
part_at_bad w start now laters grew r at = told_part start.logs now (partials_of start.tree w.plan r) laters at grew

-- What was told is a part of what was published.
part_now : (olds : List Log) (now : Watching) (partials : List Partial) → AreTold olds now partials → AllGrewPart olds now.logs partials
part_now olds now partials told =
    subst (λ (l : List Partial). AllGrewPart olds now.logs l) (sym told.1)
    (part_longer told.0 (listed now.untold) olds now.logs (part_whole told.0 olds now.logs told.2))

part_at : (w : WatchedFiles) (start : Start) (now : Watching) (at : Point) (r : Rounds) → ToldAt w.plan start now at r → Part w start now.logs r
part_at w start now point.between r told = part_now start.logs now (partials_of start.tree w.plan r) told.1
part_at w start now point.at_bad r told = part_now start.logs now (partials_of start.tree w.plan r) told
part_at w start now point.at_refusal r told = told

-- ---- all files are taken
pub all_whole : (w : WatchedFiles) (start : Start) (now : Watching) (laters : List Log) → OfFiles w (length w.names) (ToldAt w.plan start now point.between)
    → AllGrew now.logs laters (listed now.untold) → ToldAll start.tree w start.logs laters
all_whole w start now laters o grew =
    of_files_as w (length w.names) (ToldAt w.plan start now point.between) (Whole w start laters) (whole_between w start now laters grew) o

pub all_part : (w : WatchedFiles) (start : Start) (now : Watching) (laters : List Log) → OfFiles w (length w.names) (ToldAt w.plan start now point.between)
    → AllGrewPart now.logs laters (listed now.untold) → ToldUntil start.tree w start.logs laters pass_err.NoMemory
all_part w start now laters o grew =
    some_of_files w (length w.names) (ToldAt w.plan start now point.between) (Part w start laters) (part_between w start now laters grew) o

-- ---- files aren't taken
-- What observers were told of where files aren't taken, before the rest is told.
abbrev pub UntilNow : WatchedFiles → Start → Watching → PassErr → Type 0
UntilNow w start now why =
    UntilStop w (ToldAt w.plan start now point.between) (ToldAt w.plan start now point.at_bad) (λ r. (at : Point) × ToldAt w.plan start now at r) why

pub until_whole : (w : WatchedFiles) (start : Start) (now : Watching) (laters : List Log) (why : PassErr) → (why ≡ pass_err.NoMemory → ⊥) → UntilNow w start now why
    → AllGrew now.logs laters (listed now.untold) → ToldUntil start.tree w start.logs laters why
until_whole w start now laters (pass_err.Read n) going u grew =
    of_files_as w n (ToldAt w.plan start now point.between) (Whole w start laters) (whole_between w start now laters grew) u
until_whole w start now laters (pass_err.TooLarge n) going u grew =
    of_files_as w n (ToldAt w.plan start now point.between) (Whole w start laters) (whole_between w start now laters grew) u
until_whole w start now laters (pass_err.Head n fault) going u grew =
    of_files_as w n (ToldAt w.plan start now point.between) (Whole w start laters) (whole_between w start now laters grew) u
until_whole w start now laters (pass_err.Bad n bad) going u grew =
    of_before_as w n bad.no (ToldAt w.plan start now point.at_bad) (Whole w start laters) (whole_at_bad w start now laters grew) u
until_whole w start now laters pass_err.NoMemory going u grew = absurd (going refl)

pub until_part : (w : WatchedFiles) (start : Start) (now : Watching) (laters : List Log) (why : PassErr) → (why ≡ pass_err.NoMemory → ⊥) → UntilNow w start now why
    → AllGrewPart now.logs laters (listed now.untold) → ToldUntil start.tree w start.logs laters pass_err.NoMemory
until_part w start now laters (pass_err.Read n) going u grew =
    some_of_files w n (ToldAt w.plan start now point.between) (Part w start laters) (part_between w start now laters grew) u
until_part w start now laters (pass_err.TooLarge n) going u grew =
    some_of_files w n (ToldAt w.plan start now point.between) (Part w start laters) (part_between w start now laters grew) u
until_part w start now laters (pass_err.Head n fault) going u grew =
    some_of_files w n (ToldAt w.plan start now point.between) (Part w start laters) (part_between w start now laters grew) u
until_part w start now laters (pass_err.Bad n bad) going u grew =
    some_of_before w n bad.no (ToldAt w.plan start now point.at_bad) (Part w start laters) (part_at_bad w start now laters grew) u
until_part w start now laters pass_err.NoMemory going u grew = absurd (going refl)

-- An allocation failed, and the rest isn't told.
pub until_refused : (w : WatchedFiles) (start : Start) (now : Watching) (why : PassErr) → why ≡ pass_err.NoMemory → UntilNow w start now why
    → ToldUntil start.tree w start.logs now.logs pass_err.NoMemory
until_refused w start now why is u =
    let P : PassErr → Type 0 = λ e. UntilNow w start now e in
    of_some_as w (λ r. (at : Point) × ToldAt w.plan start now at r) (Part w start now.logs) (λ r told. part_at w start now told.0 r told.1) (subst P is u)

-- No round was taken.
pub none_done : (w : WatchedFiles) (start : Start) (news : List Log) → news ≡ start.logs → ToldUntil start.tree w start.logs news pass_err.NoMemory
none_done w start news same = record {
  file = 0;
  rounds = [];
  done = record { files = []; may = tt; are = files_are.no_file w.first };
  others = [];
  begins = inl refl;
  so = subst (λ (l : List Log). AllGrewPart start.logs l []) (sym same) (part_none [] start.logs);
}

-- ---- by the answer of a pass
-- The rest can't be told.
pub rest_part : (w : WatchedFiles) (start : Start) (now : Watching) (laters : List Log) (r : Result ℕ PassErr) → (r ≡ Err pass_err.NoMemory → ⊥)
    → OnOk r (OfFiles w (length w.names) (ToldAt w.plan start now point.between)) → IfErr r (UntilNow w start now) → AllGrewPart now.logs laters (listed now.untold)
    → ToldUntil start.tree w start.logs laters pass_err.NoMemory
rest_part w start now laters (Ok n) going done until grew = all_part w start now laters done grew
rest_part w start now laters (Err why) going done until grew = until_part w start now laters why (λ is. going (ap Err is)) until grew

-- The rest is told.
pub rest_whole : (w : WatchedFiles) (start : Start) (now : Watching) (laters : List Log) (r : Result ℕ PassErr) (why : PassErr) → (r ≡ Err pass_err.NoMemory → ⊥) → r ≡ Err why
    → IfErr r (UntilNow w start now) → AllGrew now.logs laters (listed now.untold) → ToldUntil start.tree w start.logs laters why
rest_whole w start now laters r why going is until grew =
    let P : Result ℕ PassErr → Type 0 = λ x. IfErr x (UntilNow w start now) in
    until_whole w start now laters why (λ same. going (is ∙ ap Err same)) (subst P is until) grew

pub rest_all : (w : WatchedFiles) (start : Start) (now : Watching) (laters : List Log) (r : Result ℕ PassErr) (n : ℕ) → r ≡ Ok n
    → OnOk r (OfFiles w (length w.names) (ToldAt w.plan start now point.between)) → AllGrew now.logs laters (listed now.untold) → ToldAll start.tree w start.logs laters
rest_all w start now laters r n is done grew =
    let P : Result ℕ PassErr → Type 0 = λ x. OnOk x (OfFiles w (length w.names) (ToldAt w.plan start now point.between)) in
    all_whole w start now laters (subst P is done) grew

pub out_of_memory : (w : WatchedFiles) (start : Start) (now : Watching) (r : Result ℕ PassErr) → r ≡ Err pass_err.NoMemory → IfErr r (UntilNow w start now)
    → ToldUntil start.tree w start.logs now.logs pass_err.NoMemory
out_of_memory w start now r is until =
    let P : Result ℕ PassErr → Type 0 = λ x. IfErr x (UntilNow w start now) in
    until_refused w start now pass_err.NoMemory refl (subst P is until)

pub taken_by : {T E : Type 0} (r : Result T E) (x : T) (P : T → Type 0) → r ≡ Ok x → IfOk r P → P x
taken_by (Ok y) x P is holds = let same : y ≡ x = cc in subst P same holds
taken_by (Err e) x P is holds = absurd (cc)
