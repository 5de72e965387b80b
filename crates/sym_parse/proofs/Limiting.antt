-- At most one token of a text passes a limit first, and it is answered.
use Rattle.std.proofs.Common.{◌≡◌, ℕ, zero, suc, ◌-◌, ◌<◌, ◌≤◌, ◌⊎◌, inl, inr, false, List, [], ◌∷◌, ◌++◌, length, slice_get, Some, Result, Ok, Err, refl, ap, sym, ◌∙◌, subst, arith, append_assoc, length-append}
use Rattle.std.proofs.lemmas.Bool.{cases_lt}
use Rattle.std.proofs.lemmas.List.{length-map, map-append}
use Rattle.std.proofs.lemmas.Option.{same_Some}
use Rattle.sym_base.specs.declared.tree.script.Script.{Script}
use Rattle.sym_base.specs.Trees.{ScriptTree}
use Rattle.sym_lex.specs.declared.token.Token.{Token}
use Rattle.sym_lex.specs.Lexing.{lexed}
use Rattle.sym_lex.proofs.Agreement.{reads-once}
use Rattle.sym_parse.specs.declared.error.LimitKind.{LimitKind}
use Rattle.sym_parse.specs.declared.error.LimitKind.TheVariants as limit
use Rattle.sym_parse.specs.declared.error.ParseErr.{ParseErr}
use Rattle.sym_parse.specs.declared.error.ParseErr.TheVariants as answer
use Rattle.sym_parse.specs.declared.stop.Stop.TheVariants as stop
use Rattle.sym_parse.specs.Answers.{Gives, by_tokens, ended, parsed, place_or, place_of_left}
use Rattle.sym_parse.specs.Beginnings.{Begins, is_opening, trimmed}
use Rattle.sym_parse.specs.Lexemes.{Lexeme, lexeme_of, lexemes_of}
use Rattle.sym_parse.specs.Limits.{most, rank}
use Rattle.sym_parse.specs.Parsing.Scripts.{script, start}
use Rattle.sym_parse.specs.Places.{BeginBy, Keep, KeepAll, AddOne, IsPassed}
use Rattle.sym_parse.specs.Sentences.{IsNoEarlier}
use Rattle.sym_parse.specs.Steps.{Parsed}
use Rattle.sym_parse.specs.Syntax.Scripts.{IsScript}
use Rattle.sym_parse.proofs.Answering.{some}
use Rattle.sym_parse.proofs.RecognizingScripts.{script-found}
use Rattle.sym_parse.proofs.Refusing.{none-begins, none-within, split, longer, begins-less, begins-as-such, front-begins, passed-thing, passed-more, no-earlier}
use Rattle.sym_parse.proofs.Wanting.{wanted, final, final-after, wanted-none, open-level, trimmed-through}

-- ---- kinds

abbrev kinds : List LimitKind
kinds =
    limit.Enums ∷ limit.Labels ∷ limit.Fields ∷ limit.Cells ∷ limit.Tests ∷ limit.Parameters ∷ limit.Parts
    ∷ limit.Statements ∷ limit.Depth ∷ limit.Operands ∷ limit.Columns ∷ limit.GroupFields ∷ []

kind-there : (k : LimitKind) → slice_get kinds (rank k) ≡ Some k
kind-there limit.Enums = refl
kind-there _ = refl

-- Kinds of one rank are one.
same-kind : (j k : LimitKind) → rank j ≡ rank k → j ≡ k
same-kind j k e = same_Some j k (sym (kind-there j) ∙ ap (slice_get kinds) e ∙ kind-there k)

-- ---- of tokens

-- What is said of a token that passes a limit.
record Passing (front : List Lexeme) (l : Lexeme) (which : LimitKind) : Type 0 where
  begins : Begins which l.terminal
  none : BeginBy (Keep which) (front ++ l ∷ []) → ⊥
  more : BeginBy (AddOne which) (front ++ l ∷ [])
  kept : BeginBy KeepAll (trimmed front)
  deep : BeginBy (Keep limit.Depth) front

module _ (front us : List Lexeme) (l : Lexeme) (which : LimitKind) (p : Passing front l which) where
  abbrev Here : Parsed ScriptTree
  Here = Err (stop.Limit (suc (length us)) which)

  abbrev read : Parsed ScriptTree
  read = script most (start (front ++ l ∷ us))

  apart : (front ++ l ∷ []) ++ us ≡ front ++ l ∷ us
  apart = append_assoc front (l ∷ []) us

  -- Reading doesn't come past it.
  not-past : IsNoEarlier (length us) read → ⊥
  not-past n =
      let there : IsNoEarlier (length us) (script most (start ((front ++ l ∷ []) ++ us))) = subst (λ (ls : List Lexeme). IsNoEarlier (length us) (script most (start ls))) (sym apart) n in
      let last : final l (front ++ l ∷ []) ≡ l = final-after l front (l ∷ []) in
      let nothing : wanted (final l (front ++ l ∷ [])) which ≡ 0 = ap (λ (k : Lexeme). wanted k which) last ∙ wanted-none which l p.begins in
      p.none (begins-as-such (front ++ l ∷ []) (front-begins (front ++ l ∷ []) us l there) (λ limits few. omega (arith, few which, nothing)))

  -- Nothing before it passes a limit.
  not-before : (a b c : List Lexeme) (u : Lexeme) (other : LimitKind) → front ≡ (a ++ u ∷ []) ++ c → script most (start (a ++ u ∷ b)) ≡ Err (stop.Limit (suc (length b)) other) → ⊥
  not-before a b c u other e here = by-level (open-level other u.terminal (passed-thing a b u other here))
    where
      within : (ls : List Lexeme) → BeginBy (Keep other) ((a ++ u ∷ []) ++ ls) → ⊥
      within ls begun = none-within other a b u here (begins-less (a ++ u ∷ []) ls begun)

      stays : is_opening u.terminal ≡ false → trimmed front ≡ (a ++ u ∷ []) ++ trimmed c
      stays closed = ap trimmed (e ∙ append_assoc a (u ∷ []) c) ∙ trimmed-through u a c closed ∙ sym (append_assoc a (u ∷ []) (trimmed c))

      by-level : (is_opening u.terminal ≡ false) ⊎ (other ≡ limit.Depth) → ⊥
      by-level (inl closed) = within (trimmed c) (subst (BeginBy (Keep other)) (stays closed) (begins-as-such (trimmed front) p.kept (λ limits few. few other)))
      by-level (inr depth) = within c (subst (BeginBy (Keep other)) e (subst (λ (k : LimitKind). BeginBy (Keep k) front) (sym depth) p.deep))

  -- Of two limits that it passes the first is answered.
  first-kind : (other : LimitKind) → read ≡ Err (stop.Limit (suc (length us)) other) → (rank other < rank which) ⊎ (rank which ≤ rank other) → (rank which < rank other) ⊎ (rank other ≤ rank which) → other ≡ which
  first-kind other here (inl less) q = absurd (none-within other front us l here (begins-as-such (front ++ l ∷ []) p.more (λ limits add. add.before other less)))
  first-kind other here (inr all) (inl less) = absurd (p.none (begins-as-such (front ++ l ∷ []) (passed-more front us l other here) (λ limits add. add.before which less)))
  first-kind other here (inr all) (inr most-of) = same-kind other which (omega (arith, all, most-of))

  -- The lexemes on both sides of a stop at or before it.
  before-by : (other : LimitKind) (left : ℕ) → length us < left → read ≡ Err (stop.Limit (suc left) other) → left < length (front ++ l ∷ us) → ⊥
  before-by other left h here there =
      let s = split (front ++ l ∷ us) left there in
      let split-here : script most (start (s.front ++ s.item ∷ s.rest)) ≡ Err (stop.Limit (suc (length s.rest)) other) =
      ap (λ (ls : List Lexeme). script most (start ls)) (sym s.splits) ∙ here ∙ ap (λ (n : ℕ). Err (stop.Limit (suc n) other)) (sym s.after) in
      let more = longer (s.front ++ s.item ∷ []) front s.rest (l ∷ us) (append_assoc s.front (s.item ∷ []) s.rest ∙ sym s.splits) (omega (arith, h, s.after)) in
      not-before s.front s.rest more.0 s.item other more.1 split-here

  unexpected-by : (left : ℕ) → length us ≤ left → read ≡ Err (stop.Expected (suc left)) → left < length (front ++ l ∷ us) → ⊥
  unexpected-by left h here there =
      let s = split (front ++ l ∷ us) left there in
      let split-here : script most (start (s.front ++ s.item ∷ s.rest)) ≡ Err (stop.Expected (suc (length s.rest))) =
      ap (λ (ls : List Lexeme). script most (start ls)) (sym s.splits) ∙ here ∙ ap (λ (n : ℕ). Err (stop.Expected (suc n))) (sym s.after) in
      let begun : List Lexeme = s.front ++ s.item ∷ [] in
      let more = longer begun (front ++ l ∷ []) s.rest us (append_assoc s.front (s.item ∷ []) s.rest ∙ sym s.splits ∙ sym apart) (omega (arith, h, s.after)) in
      let goes = begins-less begun more.0 (subst (BeginBy (AddOne which)) more.1 p.more) in
      none-begins most s.front s.rest s.item split-here goes.rest (record { limits = goes.limits; tree = goes.tree; script = goes.script })

  limit-by : (left : ℕ) (other : LimitKind) → read ≡ Err (stop.Limit (suc left) other) → suc left ≤ length (front ++ l ∷ us) → (length us < left) ⊎ (left ≤ length us) → (left < length us) ⊎ (length us ≤ left) → read ≡ Here
  limit-by left other here n (inl early) q = absurd (before-by other left early here (omega (arith, n)))
  limit-by left other here n (inr all) (inl late) = absurd (not-past (subst (λ (o : Parsed ScriptTree). IsNoEarlier (length us) o) (sym here) (omega (arith, late))))
  limit-by left other here n (inr all) (inr most-of) =
      let same : left ≡ length us = omega (arith, all, most-of) in
      let there : read ≡ Err (stop.Limit (suc (length us)) other) = here ∙ ap (λ (m : ℕ). Err (stop.Limit (suc m) other)) same in
      there ∙ ap (λ (k : LimitKind). Err (stop.Limit (suc (length us)) k)) (first-kind other there (cases_lt (rank other) (rank which)) (cases_lt (rank which) (rank other)))

  expected-by : (left : ℕ) → read ≡ Err (stop.Expected (suc left)) → suc left ≤ length (front ++ l ∷ us) → (left < length us) ⊎ (length us ≤ left) → read ≡ Here
  expected-by left here n (inl late) = absurd (not-past (subst (λ (o : Parsed ScriptTree). IsNoEarlier (length us) o) (sym here) (omega (arith, late))))
  expected-by left here n (inr early) = absurd (unexpected-by left early here (omega (arith, n)))

  read-by : (o : Parsed ScriptTree) → read ≡ o → IsNoEarlier (length (front ++ l ∷ us)) o → read ≡ Here
  read-by (Ok r) e n =
      let is : IsScript most (front ++ l ∷ us) r.0 = script-found most some (front ++ l ∷ us) r.1 r.0 e in
      absurd (p.none (record { limits = most; such = omega arith; rest = us; tree = r.0; script = subst (λ (ls : List Lexeme). IsScript most ls r.0) (sym apart) is }))
  read-by (Err (stop.Expected zero)) e n = absurd (not-past (subst (λ (o : Parsed ScriptTree). IsNoEarlier (length us) o) (sym e) (omega arith)))
  read-by (Err (stop.Expected (suc left))) e n = expected-by left e n (cases_lt left (length us))
  read-by (Err (stop.Limit zero other)) e n = absurd (not-past (subst (λ (o : Parsed ScriptTree). IsNoEarlier (length us) o) (sym e) (omega arith)))
  read-by (Err (stop.Limit (suc left) other)) e n = limit-by left other e n (cases_lt (length us) left) (cases_lt left (length us))
  read-by (Err stop.NoMemory) e n = absurd n

-- ---- of texts

stands-at : (front rest : List Token) (t : Token) → slice_get (front ++ t ∷ rest) (length front) ≡ Some t
stands-at [] rest t = refl
stands-at (x ∷ front) rest t = stands-at front rest t

pub passed-parsed : (text : List ℕ) (at : ℕ) (which : LimitKind) → IsPassed text at which → parsed text ≡ Err (answer.Limit at which)
unfolding parsed
passed-parsed text at which p =
    let tokens : List Token = p.front ++ p.token ∷ p.rest in
    let ls : List Lexeme = lexemes_of text p.front in
    let us : List Lexeme = lexemes_of text p.rest in
    let l : Lexeme = lexeme_of text p.token in
    let with : lexemes_of text (p.front ++ p.token ∷ []) ≡ ls ++ l ∷ [] = map-append (lexeme_of text) p.front (p.token ∷ []) in
    let apart : lexemes_of text tokens ≡ ls ++ l ∷ us = map-append (lexeme_of text) p.front (p.token ∷ p.rest) in
    let passing : Passing ls l which = record {
      begins = p.begins;
      none = subst (λ (m : List Lexeme). BeginBy (Keep which) m → ⊥) with p.none;
      more = subst (BeginBy (AddOne which)) with p.more;
      kept = p.kept;
      deep = p.deep;
    } in
    let read : script most (start (ls ++ l ∷ us)) ≡ Err (stop.Limit (suc (length us)) which) =
    read-by ls us l which passing (script most (start (ls ++ l ∷ us))) refl (subst (λ (m : List Lexeme). IsNoEarlier (length m) (script most (start m))) apart (no-earlier text tokens)) in
    let index : length tokens - suc (length us) ≡ length p.front = omega (arith, length-append p.front (p.token ∷ p.rest), length-map p.rest (lexeme_of text)) in
    let place : place_of_left (length text) tokens (suc (length us)) ≡ at = ap (λ (n : ℕ). place_or (length text) (slice_get tokens n)) index ∙ ap (place_or (length text)) (stands-at p.front p.rest p.token) ∙ p.stands in
    let lexes : lexed text ≡ Ok tokens = (reads-once text (Ok tokens)).0 p.lexed in
    ap (by_tokens text) lexes ∙ ap (ended (length text) tokens) (ap (λ (m : List Lexeme). script most (start m)) apart ∙ read) ∙ ap (λ (n : ℕ). Err (answer.Limit n which)) place

pub limited-by : (text : List ℕ) (r : Result Script ParseErr) → Gives r (parsed text) → (at : ℕ) (which : LimitKind) → IsPassed text at which → Gives r (Err (answer.Limit at which))
limited-by text r g at which p = subst (λ (o : Result ScriptTree ParseErr). Gives r o) (passed-parsed text at which p) g
