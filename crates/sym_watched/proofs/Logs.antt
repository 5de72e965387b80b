-- How logs grow.
use Rattle.std.proofs.Common.{◌≡◌, ◌∙◌, refl, sym, ap, subst, ℕ, zero, suc, ◌+◌, ◌<◌, arith, List, [], ◌∷◌, ◌++◌, length, map, take, drop, set, get_or, append_assoc, add-one, ◌≤◌, Option, None, Some, Result, Ok, Err}
use Rattle.std.specs.Result.{OnErr, OnOk}
use Rattle.std.proofs.lemmas.List.{append-nil, length-map, map-set, get_or-map}
use mathlib.Core.List.{IsPrefix}
use Rattle.sym_report.specs.Appending.{listed}
use Rattle.sym_watch.specs.declared.partial.Partial.{Partial}
use Rattle.sym_watch.specs.Logs.{Log, grown}
use Rattle.sym_watched.specs.Partials.{AllGrew, AllGrewPart}
use Rattle.sym_watched.specs.Watching.{AreTold, Watching}

-- What holds anyhow holds after an error.
pub on_err : {T E P : Type 0} (r : Result T E) → P → OnErr r P
on_err (Ok x) p = tt
on_err (Err e) p = p

pub on_ok : {T E P : Type 0} (r : Result T E) → P → OnOk r P
on_ok (Ok x) p = p
on_ok (Err e) p = tt

pub of_ok : {T E P : Type 0} (r : Result T E) (x : T) → r ≡ Ok x → OnOk r P → P
of_ok (Ok y) x is holds = holds
of_ok (Err e) x is holds = absurd (cc)

-- ---- one log
grown_none : (log : Log) → grown [] log ≡ log
grown_none None = refl
grown_none (Some l) = ap Some (append-nil l)

grown_twice : (ps qs : List Partial) (log : Log) → grown qs (grown ps log) ≡ grown (ps ++ qs) log
grown_twice ps qs None = refl
grown_twice ps qs (Some l) = ap Some (append_assoc l ps qs)

-- ---- all logs
pub grew_none : (logs : List Log) → AllGrew logs logs []
grew_none [] = refl
grew_none (log ∷ logs) = cc (grown_none log, grew_none logs)

pub grew_twice : (ps qs : List Partial) (olds news laters : List Log) → AllGrew olds news ps
    → AllGrew news laters qs → AllGrew olds laters (ps ++ qs)
grew_twice ps qs [] [] laters a b = b
grew_twice ps qs [] (n ∷ news) laters a b = absurd (cc)
grew_twice ps qs (o ∷ olds) [] laters a b = absurd (cc)
grew_twice ps qs (o ∷ olds) (n ∷ news) [] a b = absurd (cc)
grew_twice ps qs (o ∷ olds) (n ∷ news) (l ∷ laters) a b =
    let first : n ≡ grown ps o = cc in
    let second : l ≡ grown qs n = cc in
    let others : news ≡ map (grown ps) olds = cc in
    let last : laters ≡ map (grown qs) news = cc in
    let here : l ≡ grown (ps ++ qs) o = second ∙ ap (grown qs) first ∙ grown_twice ps qs o in
    let rest : AllGrew olds laters (ps ++ qs) = grew_twice ps qs olds news laters others last in
    ap (λ x. x ∷ laters) here ∙ ap (λ xs. grown (ps ++ qs) o ∷ xs) rest

-- ---- parts
prefix_self : (ps : List Partial) → IsPrefix ps ps
prefix_self ps = ([], append-nil ps)

-- What grew by all of some partials and then by a part of others.
pub part_after : (ps qs : List Partial) (olds news laters : List Log) → AllGrew olds news ps
    → AllGrewPart news laters qs → AllGrewPart olds laters (ps ++ qs)
part_after ps qs [] [] [] a b = tt
part_after ps qs [] [] (l ∷ laters) a b = absurd b
part_after ps qs [] (n ∷ news) laters a b = absurd (cc)
part_after ps qs (o ∷ olds) [] laters a b = absurd (cc)
part_after ps qs (o ∷ olds) (n ∷ news) [] a b = absurd b
part_after ps qs (o ∷ olds) (n ∷ news) (l ∷ laters) a b =
    let first : n ≡ grown ps o = cc in
    let others : news ≡ map (grown ps) olds = cc in
    let part = b.0.0 in
    let prefix = b.0.1 in (
      (
        ps ++ part,
        (prefix.0, append_assoc ps part prefix.0 ∙ ap (λ r. ps ++ r) prefix.1),
        b.0.2 ∙ ap (grown part) first ∙ grown_twice ps part o,
      ),
      part_after ps qs olds news laters others b.1,
    )

-- What grew by all of them grew by a part of them.
pub part_whole : (ps : List Partial) (olds news : List Log) → AllGrew olds news ps
    → AllGrewPart olds news ps
part_whole ps [] [] a = tt
part_whole ps [] (n ∷ news) a = absurd (cc)
part_whole ps (o ∷ olds) [] a = absurd (cc)
part_whole ps (o ∷ olds) (n ∷ news) a =
    let first : n ≡ grown ps o = cc in
    let others : news ≡ map (grown ps) olds = cc in
    ((ps, prefix_self ps, first), part_whole ps olds news others)

-- Of more partials it's a part, too.
pub part_longer : (ps qs : List Partial) (olds news : List Log) → AllGrewPart olds news ps
    → AllGrewPart olds news (ps ++ qs)
part_longer ps qs [] [] a = tt
part_longer ps qs [] (n ∷ news) a = absurd a
part_longer ps qs (o ∷ olds) [] a = absurd a
part_longer ps qs (o ∷ olds) (n ∷ news) a =
    let prefix = a.0.1 in (
      (
        a.0.0,
        (prefix.0 ++ qs, sym (append_assoc a.0.0 prefix.0 qs) ∙ ap (λ r. r ++ qs) prefix.1),
        a.0.2,
      ),
      part_longer ps qs olds news a.1,
    )

-- Nothing was told yet.
pub part_none : (ps : List Partial) (logs : List Log) → AllGrewPart logs logs ps
part_none ps logs = part_longer [] ps logs logs (part_whole [] logs logs (grew_none logs))

-- ---- what isn't told yet
pub told_rest : (olds : List Log) (now : Watching) (partials : List Partial) (laters : List Log)
    → AreTold olds now partials → AllGrew now.logs laters (listed now.untold) → AllGrew olds laters partials
told_rest olds now partials laters told grew =
    subst (λ (l : List Partial). AllGrew olds laters l) (sym told.1)
    (grew_twice told.0 (listed now.untold) olds now.logs laters told.2 grew)

pub told_part : (olds : List Log) (now : Watching) (partials : List Partial) (laters : List Log)
    → AreTold olds now partials → AllGrewPart now.logs laters (listed now.untold) → AllGrewPart olds laters partials
told_part olds now partials laters told grew =
    subst (λ (l : List Partial). AllGrewPart olds laters l) (sym told.1)
    (part_after told.0 (listed now.untold) olds now.logs laters told.2 grew)

-- ---- observers one after the other
-- The first i logs grew.
abbrev pub front : (Log → Log) → ℕ → List Log → List Log
front f i logs = map f (take i logs) ++ drop i logs

front_step : (f : Log → Log) (xs : List Log) (i : ℕ) (d : Log) → i < length (front f i xs) → set (front f i xs) i (f (get_or (front f i xs) i d)) ≡ front f (suc i) xs
front_step f [] zero d lt = absurd (omega arith)
front_step f [] (suc i) d lt = absurd (omega arith)
front_step f (x ∷ xs) zero d lt = refl
front_step f (x ∷ xs) (suc i) d lt = ap (λ r. f x ∷ r) (front_step f xs i d (omega arith))

-- One observer more was told.
pub told_more : {O : Type 0} (log : O → Log) (f : Log → Log) (now : List O) (xs : List Log) (i : ℕ) (a b : O)
    → map log now ≡ front f i xs → i < length now → a ≡ get_or now i a → log b ≡ f (log a)
    → map log (set now i b) ≡ front f (i + 1) xs
told_more log f now xs i a b so lt at grew =
    let here : get_or (map log now) i (log a) ≡ log a = get_or-map log now i a (log a) lt ∙ ap log (sym at) in
    let long : i < length (front f i xs) = omega (arith, ap length so, length-map now log) in
    map-set log now i b
    ∙ ap (λ (l : Log). set (map log now) i l) (grew ∙ ap f (sym here))
    ∙ ap (λ (l : List Log). set l i (f (get_or l i (log a)))) so
    ∙ front_step f xs i (log a) long
    ∙ ap (λ (n : ℕ). front f n xs) (sym (add-one i))

length_front : (f : Log → Log) (i : ℕ) (xs : List Log) → length (front f i xs) ≡ length xs
length_front f zero xs = refl
length_front f (suc i) [] = refl
length_front f (suc i) (x ∷ xs) = ap suc (length_front f i xs)

front_whole : (f : Log → Log) (xs : List Log) (i : ℕ) → length xs ≤ i → front f i xs ≡ map f xs
front_whole f [] zero le = refl
front_whole f [] (suc i) le = refl
front_whole f (x ∷ xs) zero le = absurd (omega arith)
front_whole f (x ∷ xs) (suc i) le = ap (λ r. f x ∷ r) (front_whole f xs i (omega arith))

-- All observers were told.
pub told_whole : {O : Type 0} (log : O → Log) (f : Log → Log) (now : List O) (xs : List Log) (i : ℕ)
    → map log now ≡ front f i xs → length now ≤ i → map log now ≡ map f xs
told_whole log f now xs i so le =
    so ∙ front_whole f xs i (omega (arith, ap length so, length-map now log, length_front f i xs, le))

-- Some observers were told.
pub told_some : (ps : List Partial) (xs : List Log) (i : ℕ) (news : List Log) → news ≡ front (grown ps) i xs → AllGrewPart xs news ps
told_some ps [] zero news e = subst (λ (l : List Log). AllGrewPart [] l ps) (sym e) tt
told_some ps [] (suc i) news e = subst (λ (l : List Log). AllGrewPart [] l ps) (sym e) tt
told_some ps (x ∷ xs) zero news e = subst (λ (l : List Log). AllGrewPart (x ∷ xs) l ps) (sym e) (part_none ps (x ∷ xs))
told_some ps (x ∷ xs) (suc i) news e =
    subst (λ (l : List Log). AllGrewPart (x ∷ xs) l ps) (sym e) ((ps, prefix_self ps, refl), told_some ps xs i (front (grown ps) i xs) refl)

-- Nothing is left to tell.
pub grew_untold : (untold : Option Partial) (logs : List Log) → untold ≡ None → AllGrew logs logs (listed untold)
grew_untold untold logs none = subst (λ (o : Option Partial). AllGrew logs logs (listed o)) (sym none) (grew_none logs)

-- The partial that wasn't told yet is told.
pub grew_copy : (untold : Option Partial) (copy : Partial) (olds news : List Log) → untold ≡ Some copy → AllGrew olds news (copy ∷ []) → AllGrew olds news (listed untold)
grew_copy untold copy olds news some grew = subst (λ (o : Option Partial). AllGrew olds news (listed o)) (sym some) grew
