-- At most one place of a text is unexpected, and it is answered.
use Rattle.std.proofs.Common.{◌≡◌, ℕ, List, [], ◌∷◌, ◌++◌, Result, Ok, Err, ap, sym, ◌∙◌, subst, append_assoc}
use Rattle.std.proofs.lemmas.List.{append-nil, map-append}
use Rattle.sym_base.specs.declared.tree.script.Script.{Script}
use Rattle.sym_base.specs.Trees.{ScriptTree, script_tree}
use Rattle.sym_lex.specs.declared.error.LexFault.{LexFault}
use Rattle.sym_lex.specs.declared.token.Token.{Token}
use Rattle.sym_lex.specs.Rules.{LexResult, Reads}
use Rattle.sym_lex.proofs.Agreement.{reads-once}
use Rattle.sym_parse.specs.declared.error.ParseErr.{ParseErr}
use Rattle.sym_parse.specs.declared.error.ParseErr.TheVariants as answer
use Rattle.sym_parse.specs.Answers.{Gives, IsScriptOf, parsed}
use Rattle.sym_parse.specs.Lexemes.{Lexeme, lexeme_of, lexemes_of}
use Rattle.sym_parse.specs.Limits.{most}
use Rattle.sym_parse.specs.Sentences.{IsSentence, BeginNoSentence}
use Rattle.sym_parse.specs.Places.{CanGoOn, IsUnexpected, token, end, IsRefusedAt}
use Rattle.sym_parse.proofs.Answering.{parsed-found, fault-parsed}
use Rattle.sym_parse.proofs.Refusing.{text-unexpected}

-- Two ways to cut a list at an element.
data Cuts (a b : List Token) (t u : Token) : Type 0 where
  alike : t ≡ u → Cuts a b t u
  first : (m : List Token) → b ≡ (a ++ t ∷ []) ++ m → Cuts a b t u
  second : (m : List Token) → a ≡ (b ++ u ∷ []) ++ m → Cuts a b t u

cuts-more : (x : Token) (a b : List Token) (t u : Token) → Cuts a b t u → Cuts (x ∷ a) (x ∷ b) t u
cuts-more x a b t u (alike e) = alike e
cuts-more x a b t u (first m e) = first m (ap (λ (l : List Token). x ∷ l) e)
cuts-more x a b t u (second m e) = second m (ap (λ (l : List Token). x ∷ l) e)

cuts : (a b x y : List Token) (t u : Token) → a ++ t ∷ x ≡ b ++ u ∷ y → Cuts a b t u
cuts [] [] x y t u e = alike cc
cuts [] (k ∷ b) x y t u e = let same : k ≡ t = cc in first b (ap (λ (l : Token). l ∷ b) same)
cuts (k ∷ a) [] x y t u e = let same : k ≡ u = cc in second a (ap (λ (l : Token). l ∷ a) same)
cuts (k ∷ a) (l ∷ b) x y t u e =
    let heads : l ≡ k = cc in
    let tails : a ++ t ∷ x ≡ b ++ u ∷ y = cc in
    subst (λ (h : Token). Cuts (k ∷ a) (h ∷ b) t u) (sym heads) (cuts-more k a b t u (cuts a b x y t u tails))

-- What goes on begins with nothing that doesn't.
never-both : (text : List ℕ) (a m : List Token) → CanGoOn (lexemes_of text (a ++ m)) → BeginNoSentence (lexemes_of text a) → ⊥
never-both text a m go none =
    let apart : lexemes_of text (a ++ m) ++ go.rest ≡ lexemes_of text a ++ (lexemes_of text m ++ go.rest) =
    ap (λ (l : List Lexeme). l ++ go.rest) (map-append (lexeme_of text) a m) ∙ append_assoc (lexemes_of text a) (lexemes_of text m) go.rest in
    none (lexemes_of text m ++ go.rest) (subst IsSentence apart go.sentence)

abbrev tokens-are : List Token → LexResult
tokens-are tokens = Ok tokens

same-tokens : (text : List ℕ) (a b : List Token) → Reads 0 text (Ok a) → Reads 0 text (Ok b) → a ≡ b
same-tokens text a b p q = let e : tokens-are a ≡ tokens-are b = sym ((reads-once text (Ok a)).0 p) ∙ (reads-once text (Ok b)).0 q in cc

one-cut : (text : List ℕ) (a b : List Token) (t u : Token) → Cuts a b t u → CanGoOn (lexemes_of text a) → BeginNoSentence (lexemes_of text (a ++ t ∷ [])) →
    CanGoOn (lexemes_of text b) → BeginNoSentence (lexemes_of text (b ++ u ∷ [])) → t ≡ u
one-cut text a b t u (alike e) ga na gb nb = e
one-cut text a b t u (first m e) ga na gb nb = absurd (never-both text (a ++ t ∷ []) m (subst (λ (l : List Token). CanGoOn (lexemes_of text l)) e gb) na)
one-cut text a b t u (second m e) ga na gb nb = absurd (never-both text (b ++ u ∷ []) m (subst (λ (l : List Token). CanGoOn (lexemes_of text l)) e ga) nb)

no-end : (text : List ℕ) (front rest tokens : List Token) (t : Token) → front ++ t ∷ rest ≡ tokens → BeginNoSentence (lexemes_of text (front ++ t ∷ [])) → CanGoOn (lexemes_of text tokens) → ⊥
no-end text front rest tokens t e none go =
    never-both text (front ++ t ∷ []) rest (subst (λ (l : List Token). CanGoOn (lexemes_of text l)) (sym e ∙ sym (append_assoc front (t ∷ []) rest)) go) none

one-place : (text : List ℕ) (a b : ℕ) → IsUnexpected text a → IsUnexpected text b → a ≡ b
one-place text a b (token f x t r p g n) (token h y u s q k o) =
    let same : t ≡ u = one-cut text f h t u (cuts f h x y t u (same-tokens text (f ++ t ∷ x) (h ++ u ∷ y) r s)) g n k o in
    sym p ∙ ap (λ (l : Token). l.at) same ∙ q
one-place text a b (token f x t r p g n) (end tokens s q k o) = absurd (no-end text f x tokens t (same-tokens text (f ++ t ∷ x) tokens r s) n k)
one-place text a b (end tokens s q k o) (token f x t r p g n) = absurd (no-end text f x tokens t (same-tokens text (f ++ t ∷ x) tokens r s) n k)
one-place text a b (end tokens r p g n) (end others s q k o) = sym p ∙ q

-- A text with an unexpected place has tokens, and they are no script's.
pub never-script : (text : List ℕ) (at : ℕ) (tree : ScriptTree) → IsUnexpected text at → IsScriptOf text tree → ⊥
never-script text at tree (token f x t r p g n) is =
    let e : is.tokens ≡ f ++ t ∷ x = same-tokens text is.tokens (f ++ t ∷ x) is.lexed r in
    let whole : CanGoOn (lexemes_of text is.tokens) = goes (lexemes_of text is.tokens) (record { limits = most; tree = tree; script = is.script }) in
    no-end text f x is.tokens t (sym e) n whole
  where
    goes : (ls : List Lexeme) → IsSentence ls → CanGoOn ls
    goes ls s = record { rest = []; sentence = subst IsSentence (sym (append-nil ls)) s }
never-script text at tree (end tokens r p g n) is =
    n (subst (λ (l : List Token). IsSentence (lexemes_of text l)) (same-tokens text is.tokens tokens is.lexed r) (record { limits = most; tree = tree; script = is.script }))

never-fault : (text : List ℕ) (tokens : List Token) (fault : LexFault) → Reads 0 text (Ok tokens) → Reads 0 text (Err fault) → ⊥
never-fault text tokens fault p q = let e : tokens-are tokens ≡ Err fault = sym ((reads-once text (Ok tokens)).0 p) ∙ (reads-once text (Err fault)).0 q in cc

no-fault : (text : List ℕ) (at : ℕ) (fault : LexFault) → IsUnexpected text at → Reads 0 text (Err fault) → ⊥
no-fault text at fault (token f x t r p g n) q = never-fault text (f ++ t ∷ x) fault r q
no-fault text at fault (end tokens r p g n) q = never-fault text tokens fault r q

pub expected-by : (text : List ℕ) (r : Result Script ParseErr) → Gives r (parsed text) → (at : ℕ) → IsUnexpected text at → IsRefusedAt at r
expected-by text (Ok s) g at u = never-script text at (script_tree s) u (parsed-found text (script_tree s) g)
expected-by text (Err (answer.Lex fault)) g at u = no-fault text at fault u (fault-parsed text fault (g (λ h. cc)))
expected-by text (Err (answer.Expected place)) g at u = one-place text place at (text-unexpected text place (g (λ h. cc))) u
expected-by text (Err (answer.Limit place which)) g at u = tt
expected-by text (Err answer.NoMemory) g at u = tt
