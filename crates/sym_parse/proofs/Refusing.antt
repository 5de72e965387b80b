-- Where no sentence goes on, where a limit is passed, and that wider limits change nothing before the
-- one that is passed.
use Rattle.std.proofs.Common.{◌≡◌, ◌≢◌, ℕ, zero, suc, ◌+◌, ◌-◌, ◌<◌, ◌≤◌, max, ◌⊎◌, inl, inr, List, [], ◌∷◌, ◌++◌, length, slice_get, Some, None, Result, Ok, Err, IsErrOf, refl, ap, sym, ◌∙◌, subst, arith, append_assoc, length-append}
use Rattle.std.proofs.lemmas.Bool.{cases_lt}
use Rattle.std.proofs.lemmas.List.{append-nil, length-map, map-append}
use Rattle.std.proofs.lemmas.Option.{slice_get_past}
use Rattle.sym_base.specs.declared.tree.script.Script.{Script}
use Rattle.sym_base.specs.Trees.{ScriptTree}
use Rattle.sym_lex.specs.declared.token.Token.{Token}
use Rattle.sym_lex.specs.Rules.{LexResult, Reads}
use Rattle.sym_lex.specs.Lexing.{lexed}
use Rattle.sym_lex.proofs.Agreement.{reads-once}
use Rattle.sym_parse.specs.declared.error.LimitKind.{LimitKind}
use Rattle.sym_parse.specs.declared.error.LimitKind.TheVariants as limit
use Rattle.sym_parse.specs.declared.error.ParseErr.{ParseErr}
use Rattle.sym_parse.specs.declared.error.ParseErr.TheVariants as answer
use Rattle.sym_parse.specs.declared.stop.Stop.{Stop}
use Rattle.sym_parse.specs.declared.stop.Stop.TheVariants as stop
use Rattle.sym_parse.specs.Answers.{Gives, by_tokens, ended, parsed, place_or, place_of_left}
use Rattle.sym_parse.specs.Lexemes.{Str, Lexeme, lexeme_of, lexemes_of}
use Rattle.sym_parse.specs.Limits.{most}
use Rattle.sym_parse.specs.Steps.{Input, Parsed}
use Rattle.sym_parse.specs.Parsing.Scripts.{script, start}
use Rattle.sym_parse.specs.Sentences.{IsSentence, BeginNoSentence, IsNoEarlier, IsKeptBy}
use Rattle.sym_parse.specs.Beginnings.{Begins, trimmed}
use Rattle.sym_parse.specs.Places.{CanGoOn, BeginBy, Keep, KeepAll, AddOne, IsUnexpected, token, end, IsPassed}
use Rattle.sym_parse.specs.Syntax.Scripts.{IsScript}
use Rattle.sym_parse.proofs.Reading.{at}
use Rattle.sym_parse.proofs.Keeping.{Keeps, Along, ahead, same, Agrees}
use Rattle.sym_parse.proofs.KeepingScripts.{script-keeps}
use Rattle.sym_parse.proofs.ScriptsComplete.{script-reads}
use Rattle.sym_parse.proofs.RecognizingScripts.{script-found, By, unexpected-begins, passed-begins, passed-there}
use Rattle.sym_parse.proofs.Wanting.{wanted, final, final-after, raised, raised-self, raised-before, trimmed-cut, trimmed-closed, closed-wants}
use Rattle.sym_parse.proofs.Answering.{some}

-- ---- two readings of a whole list of lexemes

along-start : (front us vs : List Lexeme) (l : Lexeme) → Along us vs (suc (length us)) (start (front ++ l ∷ us)) (start (front ++ l ∷ vs))
along-start [] us vs l = ahead (omega arith) l [] 0 0
along-start (f ∷ front) us vs l =
    let n : ℕ = suc (length us) in
    let both : Along us vs n (at (f ∷ ((front ++ l ∷ []) ++ us)) 0 0) (at (f ∷ ((front ++ l ∷ []) ++ vs)) 0 0) = ahead (omega arith) f (front ++ l ∷ []) 0 0 in
    let one : Along us vs n (at (f ∷ (front ++ l ∷ us)) 0 0) (at (f ∷ ((front ++ l ∷ []) ++ vs)) 0 0) =
    subst (λ (m : List Lexeme). Along us vs n (at (f ∷ m) 0 0) (at (f ∷ ((front ++ l ∷ []) ++ vs)) 0 0)) (append_assoc front (l ∷ []) us) both in
    subst (λ (m : List Lexeme). Along us vs n (at (f ∷ (front ++ l ∷ us)) 0 0) (at (f ∷ m) 0 0)) (append_assoc front (l ∷ []) vs) one

-- The kinds whose limit is the same.
abbrev Same : (LimitKind → ℕ) → (LimitKind → ℕ) → LimitKind → Type 0
Same m n k = m k ≡ n k

module _ (m n : LimitKind → ℕ) (wider : (k : LimitKind) → m k ≤ n k) where
  keeps : Keeps (Same m n) (script m) (script n)
  keeps = script-keeps m n (λ k. record { less = wider k; equal = λ e. e })

  agree : (front us vs : List Lexeme) (l : Lexeme) (o : Parsed ScriptTree) → script m (start (front ++ l ∷ us)) ≡ o → Agrees (Same m n) us vs (suc (length us)) o (script n (start (front ++ l ∷ vs)))
  agree front us vs l o e =
      subst (λ (r : Parsed ScriptTree). Agrees (Same m n) us vs (suc (length us)) r (script n (start (front ++ l ∷ vs)))) e
      (keeps.agrees us vs (suc (length us)) (start (front ++ l ∷ us)) (start (front ++ l ∷ vs)) (along-start front us vs l))

  -- A token that can't stand where it does can't stand there with other tokens after it.
  pub same-refusal : (front us vs : List Lexeme) (l : Lexeme) → script m (start (front ++ l ∷ us)) ≡ Err (stop.Expected (suc (length us))) →
      script n (start (front ++ l ∷ vs)) ≡ Err (stop.Expected (suc (length vs)))
  same-refusal front us vs l e = agree front us vs l (Err (stop.Expected (suc (length us)))) e (omega arith) (suc (length vs)) (omega arith)

  -- A token that passes a limit passes it with other tokens after it, where that limit is the same.
  same-limit : (front us vs : List Lexeme) (l : Lexeme) (which : LimitKind) → m which ≡ n which → script m (start (front ++ l ∷ us)) ≡ Err (stop.Limit (suc (length us)) which) →
      script n (start (front ++ l ∷ vs)) ≡ Err (stop.Limit (suc (length vs)) which)
  same-limit front us vs l which k e = (agree front us vs l (Err (stop.Limit (suc (length us)) which)) e (omega arith) (suc (length vs)) (omega arith)).1 k

  goes-same : (read : ScriptTree × Input) (o : Parsed ScriptTree) (i : Input) → Along [] [] 0 read.1 i → o ≡ Ok (read.0, i) → o ≡ Ok read
  goes-same read o _ (ahead far l front st op) e = absurd (omega (arith, far))
  goes-same read o _ (same f i) e = e

  kept-by : (left : ℕ) (o r : Parsed ScriptTree) → Agrees (Same m n) [] [] 0 o r → IsNoEarlier left o → IsKeptBy o r
  kept-by most-left (Ok read) r a l = let w = a (omega arith) in goes-same read r w.input w.along w.reads
  kept-by most-left (Err (stop.Expected left)) r a l = a (omega arith) left refl
  kept-by most-left (Err (stop.Limit left which)) r a l = (a (omega arith) left refl).0
  kept-by most-left (Err stop.NoMemory) r a l = l

  pub kept : (ls : List Lexeme) → IsKeptBy (script m (start ls)) (script n (start ls))
  kept ls = kept-by (length ls) (script m (start ls)) (script n (start ls)) (keeps.agrees [] [] 0 (start ls) (start ls) (same refl (start ls))) (keeps.low.goes (start ls))

-- Of one list two outcomes at once.
never : (o : Parsed ScriptTree) (tree : ScriptTree) (i : Input) (stopped : Stop) → o ≡ Ok (tree, i) → o ≡ Err stopped → ⊥
never o tree i stopped e f = let g : Ok (tree, i) ≡ Err stopped = sym e ∙ f in cc

-- Limits that are as wide as two others.
abbrev both : (LimitKind → ℕ) → (LimitKind → ℕ) → LimitKind → ℕ
both m n k = m k + n k

-- A sentence is read with wider limits too.
sentence-reads : (m : LimitKind → ℕ) (ls : List Lexeme) (s : IsSentence ls) → (i : Input) × (script (both m s.limits) (start ls) ≡ Ok (s.tree, i))
sentence-reads m ls s =
    let read = script-reads s.limits ls s.tree s.script in
    let wide = kept s.limits (both m s.limits) (λ k. omega arith) ls in
    (read.0, subst (λ (o : Parsed ScriptTree). IsKeptBy o (script (both m s.limits) (start ls))) read.1 wide)

-- No sentence begins with the lexemes up to the one at which reading stops.
pub none-begins : (m : LimitKind → ℕ) (front us : List Lexeme) (l : Lexeme) → script m (start (front ++ l ∷ us)) ≡ Err (stop.Expected (suc (length us))) → BeginNoSentence (front ++ l ∷ [])
none-begins m front us l e = λ rest s.
    let wide : LimitKind → ℕ = both m s.limits in
    let read = sentence-reads m ((front ++ l ∷ []) ++ rest) s in
    let there : script wide (start (front ++ l ∷ rest)) ≡ Ok (s.tree, read.0) = ap (λ (ls : List Lexeme). script wide (start ls)) (sym (append_assoc front (l ∷ []) rest)) ∙ read.1 in
    never (script wide (start (front ++ l ∷ rest))) s.tree read.0 (stop.Expected (suc (length rest))) there (same-refusal m wide (λ k. omega arith) front us rest l e)

-- No script within the limit that the next lexeme passes begins with those up to it.
pub none-within : (which : LimitKind) (front us : List Lexeme) (l : Lexeme) → script most (start (front ++ l ∷ us)) ≡ Err (stop.Limit (suc (length us)) which) → BeginBy (Keep which) (front ++ l ∷ []) → ⊥
none-within which front us l e b =
    let wide : LimitKind → ℕ = λ k. max (most k) (b.limits k) in
    let ls : List Lexeme = (front ++ l ∷ []) ++ b.rest in
    let read = script-reads b.limits ls b.tree b.script in
    let again : script wide (start ls) ≡ Ok (b.tree, read.0) = subst (λ (o : Parsed ScriptTree). IsKeptBy o (script wide (start ls))) read.1 (kept b.limits wide (λ k. omega arith) ls) in
    let there : script wide (start (front ++ l ∷ b.rest)) ≡ Ok (b.tree, read.0) = ap (λ (m : List Lexeme). script wide (start m)) (sym (append_assoc front (l ∷ []) b.rest)) ∙ again in
    let few : b.limits which ≤ most which = b.such in
    let same-most : most which ≡ max (most which) (b.limits which) = omega (arith, few) in
    never (script wide (start (front ++ l ∷ b.rest))) b.tree read.0 (stop.Limit (suc (length b.rest)) which) there (same-limit most wide (λ k. omega arith) front us b.rest l which same-most e)

-- Lexemes after which reading stops at the end are no sentence.
none-is : (m : LimitKind → ℕ) (ls : List Lexeme) → script m (start ls) ≡ Err (stop.Expected 0) → IsSentence ls → ⊥
none-is m ls e s =
    let wide : LimitKind → ℕ = both m s.limits in
    let read = sentence-reads m ls s in
    let again : script wide (start ls) ≡ Err (stop.Expected 0) = subst (λ (o : Parsed ScriptTree). IsKeptBy o (script wide (start ls))) e (kept m wide (λ k. omega arith) ls) in
    never (script wide (start ls)) s.tree read.0 (stop.Expected 0) read.1 again

-- ---- lists that are cut

-- An item from which so many are left, and those on both sides of it.
pub record Split {A : Type 0} (items : List A) (left : ℕ) : Type 0 where
  pub front : List A
  pub item : A
  pub rest : List A
  pub splits : items ≡ front ++ item ∷ rest
  pub after : length rest ≡ left
  pub stands : slice_get items (length items - suc left) ≡ Some item

module _ {A : Type 0} where
  split-first : (t : A) (items : List A) (left : ℕ) → left ≡ length items → Split (t ∷ items) left
  split-first t items left e =
      let n : length (t ∷ items) - suc left ≡ 0 = omega (arith, e) in
      record { front = []; item = t; rest = items; splits = refl; after = sym e; stands = ap (slice_get (t ∷ items)) n }

  split-further : (t : A) (items : List A) (left : ℕ) → left < length items → Split items left → Split (t ∷ items) left
  split-further t items left h s =
      let n : length (t ∷ items) - suc left ≡ suc (length items - suc left) = omega (arith, h) in
      record { front = t ∷ s.front; item = s.item; rest = s.rest; splits = ap (λ (m : List A). t ∷ m) s.splits; after = s.after; stands = ap (slice_get (t ∷ items)) n ∙ s.stands }

  split-by : (t : A) (items : List A) (left : ℕ) → left < length (t ∷ items) → (left < length items) ⊎ (length items ≤ left) → (left < length items → Split items left) → Split (t ∷ items) left
  split-by t items left h (inl less) s = split-further t items left less (s less)
  split-by t items left h (inr all) s = split-first t items left (omega (arith, h, all))

  pub split : (items : List A) (left : ℕ) → left < length items → Split items left
  split [] left h = absurd (omega (arith, h))
  split (t ∷ items) left h = split-by t items left h (cases_lt left (length items)) (split items left)

-- Fewer items after them: the longer of two beginnings begins with the shorter one.
pub longer : (a b x y : List Lexeme) → a ++ x ≡ b ++ y → length y ≤ length x → (c : List Lexeme) × (b ≡ a ++ c)
longer [] b x y e h = (b, refl)
longer (k ∷ a) [] x y e h = let n : length ((k ∷ a) ++ x) ≡ length y = ap length e in absurd (omega (arith, n, h, length-append a x))
longer (k ∷ a) (l ∷ b) x y e h =
    let heads : l ≡ k = cc in
    let tails : a ++ x ≡ b ++ y = cc in
    let further = longer a b x y tails h in
    (further.0, ap (λ (m : Lexeme). m ∷ b) heads ∙ ap (λ (m : List Lexeme). k ∷ m) further.1)

-- ---- the lexemes before a place

pub begins-less : {Such : (LimitKind → ℕ) → Type 0} (a c : List Lexeme) → BeginBy Such (a ++ c) → BeginBy Such a
begins-less a c b = record { limits = b.limits; such = b.such; rest = c ++ b.rest; tree = b.tree; script = subst (λ (ls : List Lexeme). IsScript b.limits ls b.tree) (append_assoc a c b.rest) b.script }

pub begins-as-such : {Such Other : (LimitKind → ℕ) → Type 0} (ls : List Lexeme) → BeginBy Such ls → ((limits : LimitKind → ℕ) → Such limits → Other limits) → BeginBy Other ls
begins-as-such ls b weaker = record { limits = b.limits; such = weaker b.limits b.such; rest = b.rest; tree = b.tree; script = b.script }

-- Limits that are wider by so much at most.
abbrev Within : (LimitKind → ℕ) → (LimitKind → ℕ) → Type 0
Within extra limits = (k : LimitKind) → limits k ≤ most k + extra k

-- A stop before the end of lexemes is one with others after them.
too-early : (front rest : List Lexeme) {left : ℕ} (s : Split front left) (stopped : Stop) → (IsNoEarlier {A = ScriptTree} (length rest) (Err stopped) → ⊥) → script most (start (s.front ++ s.item ∷ (s.rest ++ rest))) ≡ Err stopped →
    IsNoEarlier (length rest) (script most (start (front ++ rest))) → ⊥
too-early front rest {left} s stopped early there l =
    let apart : front ++ rest ≡ s.front ++ s.item ∷ (s.rest ++ rest) = ap (λ (ls : List Lexeme). ls ++ rest) s.splits ∙ append_assoc s.front (s.item ∷ s.rest) rest in
    early (subst (λ (o : Parsed ScriptTree). IsNoEarlier (length rest) o) (ap (λ (ls : List Lexeme). script most (start ls)) apart ∙ there) l)

-- Reading some lexemes comes to their end, if with others after them it comes so far. So they begin
-- a script, with one more of what the last of them wants.
front-by : (front rest : List Lexeme) (d : Lexeme) → IsNoEarlier (length rest) (script most (start (front ++ rest))) → (o : Parsed ScriptTree) → script most (start front) ≡ o → IsNoEarlier (length front) o →
    BeginBy (Within (wanted (final d front))) front
front-by front rest d l (Ok read) e n =
    record { limits = most; such = λ k. omega arith; rest = []; tree = read.0; script = subst (λ (ls : List Lexeme). IsScript most ls read.0) (sym (append-nil front)) (script-found most some front read.1 read.0 e) }
front-by front rest d l (Err (stop.Expected zero)) e n = begins-as-such front (unexpected-begins most some front d e) (λ limits same k. omega (arith, same k))
front-by front rest d l (Err (stop.Expected (suc left))) e n =
    let s = split front left (omega (arith, n)) in
    let here : script most (start (s.front ++ s.item ∷ s.rest)) ≡ Err (stop.Expected (suc (length s.rest))) = ap (λ (ls : List Lexeme). script most (start ls)) (sym s.splits) ∙ e ∙ ap (λ (m : ℕ). Err (stop.Expected (suc m))) (sym s.after) in
    let there = same-refusal most most (λ k. omega arith) s.front s.rest (s.rest ++ rest) s.item here in
    absurd (too-early front rest s (stop.Expected (suc (length (s.rest ++ rest)))) (λ h. omega (arith, h, length-append s.rest rest)) there l)
front-by front rest d l (Err (stop.Limit zero which)) e n = absurd (omega (arith, passed-there most some front zero which e))
front-by front rest d l (Err (stop.Limit (suc left) which)) e n =
    let s = split front left (omega (arith, n)) in
    let here : script most (start (s.front ++ s.item ∷ s.rest)) ≡ Err (stop.Limit (suc (length s.rest)) which) = ap (λ (ls : List Lexeme). script most (start ls)) (sym s.splits) ∙ e ∙ ap (λ (m : ℕ). Err (stop.Limit (suc m) which)) (sym s.after) in
    let there = same-limit most most (λ k. omega arith) s.front s.rest (s.rest ++ rest) s.item which refl here in
    absurd (too-early front rest s (stop.Limit (suc (length (s.rest ++ rest))) which) (λ h. omega (arith, h, length-append s.rest rest)) there l)
front-by front rest d l (Err stop.NoMemory) e n = absurd n

pub front-begins : (front rest : List Lexeme) (d : Lexeme) → IsNoEarlier (length rest) (script most (start (front ++ rest))) → BeginBy (Within (wanted (final d front))) front
front-begins front rest d l = front-by front rest d l (script most (start front)) refl ((keeps most most (λ k. omega arith)).low.goes (start front))

-- ---- the lexeme that passes a limit

abbrev unseen : Lexeme
unseen = record { terminal = Str []; at = 0 }

module _ (front us : List Lexeme) (l : Lexeme) (which : LimitKind) (here : script most (start (front ++ l ∷ us)) ≡ Err (stop.Limit (suc (length us)) which)) where
  all-before : (a b : List Lexeme) → a ++ b ≡ front → IsNoEarlier (length (b ++ l ∷ us)) (script most (start (a ++ (b ++ l ∷ us))))
  all-before a b e =
      let apart : a ++ (b ++ l ∷ us) ≡ front ++ l ∷ us = sym (append_assoc a b (l ∷ us)) ∙ ap (λ (m : List Lexeme). m ++ l ∷ us) e in
      subst (λ (o : Parsed ScriptTree). IsNoEarlier (length (b ++ l ∷ us)) o) (sym (ap (λ (m : List Lexeme). script most (start m)) apart ∙ here)) (omega (arith, length-append b (l ∷ us)))

  alone : Begins which (final l (front ++ l ∷ [])).terminal × BeginBy (By most (raised which)) (front ++ l ∷ [])
  alone = passed-begins most some (front ++ l ∷ []) l which (same-limit most most (λ k. omega arith) front us [] l which refl here)

  pub passed-thing : Begins which l.terminal
  passed-thing = subst (λ (k : Lexeme). Begins which k.terminal) (final-after l front (l ∷ [])) alone.0

  pub passed-more : BeginBy (AddOne which) (front ++ l ∷ [])
  passed-more = begins-as-such (front ++ l ∷ []) alone.1 (λ limits same. record { one = omega (arith, same which, raised-self which); before = λ k h. omega (arith, same k, raised-before which k h) })

  pub passed-kept : BeginBy KeepAll (trimmed front)
  passed-kept =
      let cut = trimmed-cut front in
      begins-as-such (trimmed front) (front-begins (trimmed front) (cut.0 ++ l ∷ us) unseen (all-before (trimmed front) cut.0 (sym cut.1))) (λ limits few k. omega (arith, few k, closed-wants (final unseen (trimmed front)) (trimmed-closed unseen refl front) k))

  pub passed-deep : BeginBy (Keep limit.Depth) front
  passed-deep = begins-as-such front (front-begins front (l ∷ us) unseen (all-before front [] (append-nil front))) (λ limits few. omega (arith, few limit.Depth))

-- ---- the place of a stop

abbrev reading : List ℕ → List Token → Parsed ScriptTree
reading text tokens = script most (start (lexemes_of text tokens))

pub no-earlier : (text : List ℕ) (tokens : List Token) → IsNoEarlier (length (lexemes_of text tokens)) (reading text tokens)
no-earlier text tokens = (keeps most most (λ k. omega arith)).low.goes (start (lexemes_of text tokens))

can-go-on : {Such : (LimitKind → ℕ) → Type 0} (ls : List Lexeme) → BeginBy Such ls → CanGoOn ls
can-go-on ls b = record { rest = b.rest; sentence = record { limits = b.limits; tree = b.tree; script = b.script } }

at-token : (text : List ℕ) (tokens : List Token) (left at : ℕ) → Reads 0 text (Ok tokens) → reading text tokens ≡ Err (stop.Expected (suc left)) → place_of_left (length text) tokens (suc left) ≡ at →
    Split tokens left → IsUnexpected text at
at-token text tokens left at r e p s =
    let ls : List Lexeme = lexemes_of text s.front in
    let us : List Lexeme = lexemes_of text s.rest in
    let l : Lexeme = lexeme_of text s.item in
    let apart : lexemes_of text tokens ≡ ls ++ l ∷ us = ap (lexemes_of text) s.splits ∙ map-append (lexeme_of text) s.front (s.item ∷ s.rest) in
    let left-after : left ≡ length us = sym s.after ∙ sym (length-map s.rest (lexeme_of text)) in
    let here : script most (start (ls ++ l ∷ us)) ≡ Err (stop.Expected (suc (length us))) = ap (λ (m : List Lexeme). script most (start m)) (sym apart) ∙ e ∙ ap (λ (m : ℕ). Err (stop.Expected (suc m))) left-after in
    let none : BeginNoSentence (lexemes_of text (s.front ++ s.item ∷ [])) = subst BeginNoSentence (sym (map-append (lexeme_of text) s.front (s.item ∷ []))) (none-begins most ls us l here) in
    token s.front s.rest s.item (subst (λ (m : List Token). Reads 0 text (Ok m)) s.splits r) (sym (ap (place_or (length text)) s.stands) ∙ p) (can-go-on ls (front-begins ls (l ∷ us) unseen (subst (λ (o : Parsed ScriptTree). IsNoEarlier (suc (length us)) o) (sym here) (omega arith)))) none

at-place : (text : List ℕ) (tokens : List Token) (left at : ℕ) → Reads 0 text (Ok tokens) → reading text tokens ≡ Err (stop.Expected left) → left ≤ length tokens → place_of_left (length text) tokens left ≡ at → IsUnexpected text at
at-place text tokens zero at r e h p =
    let past : slice_get tokens (length tokens - 0) ≡ None = slice_get_past tokens (length tokens - 0) (omega arith) in
    let ls : List Lexeme = lexemes_of text tokens in
    end tokens r (sym (ap (place_or (length text)) past) ∙ p) (can-go-on ls (unexpected-begins most some ls unseen e)) (none-is most ls e)
at-place text tokens (suc left) at r e h p = at-token text tokens left at r e p (split tokens left (omega (arith, h)))

tokens-unexpected : (text : List ℕ) (tokens : List Token) (o : Parsed ScriptTree) (at : ℕ) → Reads 0 text (Ok tokens) → reading text tokens ≡ o → IsNoEarlier (length (lexemes_of text tokens)) o →
    ended (length text) tokens o ≡ Err (answer.Expected at) → IsUnexpected text at
tokens-unexpected text tokens (Ok read) at r e l f = cc
tokens-unexpected text tokens (Err (stop.Expected left)) at r e l f =
    let p : place_of_left (length text) tokens left ≡ at = cc in
    at-place text tokens left at r e (omega (arith, l, length-map tokens (lexeme_of text))) p
tokens-unexpected text tokens (Err (stop.Limit left which)) at r e l f = cc
tokens-unexpected text tokens (Err stop.NoMemory) at r e l f = cc

result-unexpected : (text : List ℕ) (r : LexResult) (at : ℕ) → lexed text ≡ r → by_tokens text r ≡ Err (answer.Expected at) → IsUnexpected text at
result-unexpected text (Ok tokens) at l e =
    tokens-unexpected text tokens (reading text tokens) at ((reads-once text (Ok tokens)).1 l) refl (no-earlier text tokens) e
result-unexpected text (Err fault) at l e = cc

pub text-unexpected : (text : List ℕ) (at : ℕ) → parsed text ≡ Err (answer.Expected at) → IsUnexpected text at
unfolding parsed
text-unexpected text at e = result-unexpected text (lexed text) at refl e

-- ---- which limit is passed, and where

passed-token : (text : List ℕ) (tokens : List Token) (left at : ℕ) (which : LimitKind) → Reads 0 text (Ok tokens) → reading text tokens ≡ Err (stop.Limit (suc left) which) → place_of_left (length text) tokens (suc left) ≡ at →
    Split tokens left → IsPassed text at which
passed-token text tokens left at which r e p s =
    let ls : List Lexeme = lexemes_of text s.front in
    let us : List Lexeme = lexemes_of text s.rest in
    let l : Lexeme = lexeme_of text s.item in
    let apart : lexemes_of text tokens ≡ ls ++ l ∷ us = ap (lexemes_of text) s.splits ∙ map-append (lexeme_of text) s.front (s.item ∷ s.rest) in
    let left-after : left ≡ length us = sym s.after ∙ sym (length-map s.rest (lexeme_of text)) in
    let here : script most (start (ls ++ l ∷ us)) ≡ Err (stop.Limit (suc (length us)) which) = ap (λ (m : List Lexeme). script most (start m)) (sym apart) ∙ e ∙ ap (λ (m : ℕ). Err (stop.Limit (suc m) which)) left-after in
    let with : ls ++ l ∷ [] ≡ lexemes_of text (s.front ++ s.item ∷ []) = sym (map-append (lexeme_of text) s.front (s.item ∷ [])) in
    record {
      front = s.front;
      token = s.item;
      rest = s.rest;
      lexed = subst (λ (m : List Token). Reads 0 text (Ok m)) s.splits r;
      stands = sym (ap (place_or (length text)) s.stands) ∙ p;
      begins = passed-thing ls us l which here;
      none = subst (λ (m : List Lexeme). BeginBy (Keep which) m → ⊥) with (none-within which ls us l here);
      more = subst (BeginBy (AddOne which)) with (passed-more ls us l which here);
      kept = passed-kept ls us l which here;
      deep = passed-deep ls us l which here;
    }

passed-place : (text : List ℕ) (tokens : List Token) (left at : ℕ) (which : LimitKind) → Reads 0 text (Ok tokens) → reading text tokens ≡ Err (stop.Limit left which) → left ≤ length tokens → 0 < left →
    place_of_left (length text) tokens left ≡ at → IsPassed text at which
passed-place text tokens zero at which r e h there p = absurd (omega (arith, there))
passed-place text tokens (suc left) at which r e h there p = passed-token text tokens left at which r e p (split tokens left (omega (arith, h)))

tokens-passed : (text : List ℕ) (tokens : List Token) (o : Parsed ScriptTree) (at : ℕ) (which : LimitKind) → Reads 0 text (Ok tokens) → reading text tokens ≡ o → IsNoEarlier (length (lexemes_of text tokens)) o →
    ended (length text) tokens o ≡ Err (answer.Limit at which) → IsPassed text at which
tokens-passed text tokens (Ok read) at which r e l f = cc
tokens-passed text tokens (Err (stop.Expected left)) at which r e l f = cc
tokens-passed text tokens (Err (stop.Limit left other)) at which r e l f =
    let p : place_of_left (length text) tokens left ≡ at = cc in
    let kind : other ≡ which = cc in
    subst (λ (k : LimitKind). IsPassed text at k) kind (passed-place text tokens left at other r e (omega (arith, l, length-map tokens (lexeme_of text))) (passed-there most some (lexemes_of text tokens) left other e) p)
tokens-passed text tokens (Err stop.NoMemory) at which r e l f = cc

result-passed : (text : List ℕ) (r : LexResult) (at : ℕ) (which : LimitKind) → lexed text ≡ r → by_tokens text r ≡ Err (answer.Limit at which) → IsPassed text at which
result-passed text (Ok tokens) at which l e =
    tokens-passed text tokens (reading text tokens) at which ((reads-once text (Ok tokens)).1 l) refl (no-earlier text tokens) e
result-passed text (Err fault) at which l e = cc

pub text-passed : (text : List ℕ) (at : ℕ) (which : LimitKind) → parsed text ≡ Err (answer.Limit at which) → IsPassed text at which
unfolding parsed
text-passed text at which e = result-passed text (lexed text) at which refl e

-- ---- the clauses of the public call

pub answered : (text : List ℕ) (r : Result Script ParseErr) (err : ParseErr) → Gives r (parsed text) → err ≢ answer.NoMemory → IsErrOf r err → parsed text ≡ Err err
answered text (Ok s) err g n e = cc
answered text (Err other) err g n e =
    let same-err : other ≡ err = cc in
    let given : err ≢ answer.NoMemory → parsed text ≡ Err err = subst (λ (m : ParseErr). m ≢ answer.NoMemory → parsed text ≡ Err m) same-err g in
    given n

pub unexpected-by : (text : List ℕ) (r : Result Script ParseErr) → Gives r (parsed text) → (at : ℕ) → IsErrOf r (answer.Expected at) → IsUnexpected text at
unexpected-by text r g at e = text-unexpected text at (answered text r (answer.Expected at) g (λ h. cc) e)

pub passed-by : (text : List ℕ) (r : Result Script ParseErr) → Gives r (parsed text) → (at : ℕ) (which : LimitKind) → IsErrOf r (answer.Limit at which) → IsPassed text at which
passed-by text r g at which e = text-passed text at which (answered text r (answer.Limit at which) g (λ h. cc) e)
