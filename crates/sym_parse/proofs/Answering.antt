-- What `parse` answers is what the relation says.
use Rattle.std.proofs.Common.{◌≡◌, ◌≢◌, ℕ, ◌≤◌, List, [], length, Result, Ok, Err, IfOk, IfErr, IsErrOf, refl, ap, sym, ◌∙◌, subst, arith}
use Rattle.sym_base.specs.declared.tree.script.Script.{Script}
use Rattle.sym_base.specs.Lawful.{IsLawful}
use Rattle.sym_base.specs.Trees.{ScriptTree, script_tree}
use Rattle.sym_lex.specs.declared.error.LexFault.{LexFault}
use Rattle.sym_lex.specs.declared.token.Token.{Token}
use Rattle.sym_lex.specs.Rules.{LexResult, Reads}
use Rattle.sym_lex.specs.Lexing.{lexed}
use Rattle.sym_lex.proofs.Agreement.{reads-once}
use Rattle.sym_lex.proofs.Callers.{reads-sound}
use Rattle.sym_parse.specs.declared.error.LimitKind.{LimitKind}
use Rattle.sym_parse.specs.declared.error.LimitKind.TheVariants as limit
use Rattle.sym_parse.specs.declared.error.ParseErr.{ParseErr}
use Rattle.sym_parse.specs.declared.error.ParseErr.TheVariants as answer
use Rattle.sym_parse.specs.declared.stop.Stop.TheVariants as stop
use Rattle.sym_parse.specs.Answers.{IsScriptOf, Gives, by_tokens, ended, parsed}
use Rattle.sym_parse.specs.Lexemes.{lexemes_of}
use Rattle.sym_parse.specs.Limits.{most}
use Rattle.sym_parse.specs.Steps.{Parsed}
use Rattle.sym_parse.specs.Parsing.Scripts.{script, start}
use Rattle.sym_parse.specs.Syntax.Scripts.{IsScript}
use Rattle.sym_parse.proofs.LawfulExpressions.{lexemes-suit}
use Rattle.sym_parse.proofs.LawfulScripts.{script-lawful}
use Rattle.sym_parse.proofs.RecognizingScripts.{script-found}
use Rattle.sym_parse.proofs.ScriptsComplete.{script-reads}

-- One of each kind may stand.
pub some : (k : LimitKind) → 1 ≤ most k
some limit.Enums = omega arith
some _ = omega arith

abbrev answered : ScriptTree → Result ScriptTree ParseErr
answered tree = Ok tree

same-tree : (a b : ScriptTree) → answered a ≡ answered b → a ≡ b
same-tree a b e = cc

tokens-found : (text : List ℕ) (tokens : List Token) (o : Parsed ScriptTree) (tree : ScriptTree) → lexed text ≡ Ok tokens → script most (start (lexemes_of text tokens)) ≡ o →
    ended (length text) tokens o ≡ Ok tree → IsScriptOf text tree
tokens-found text tokens (Ok read) tree l s e =
    let is : IsScript most (lexemes_of text tokens) read.0 = script-found most some (lexemes_of text tokens) read.1 read.0 s in
    record { tokens = tokens; lexed = (reads-once text (Ok tokens)).1 l; script = subst (λ (t : ScriptTree). IsScript most (lexemes_of text tokens) t) (same-tree read.0 tree e) is }
tokens-found text tokens (Err stopped) tree l s e = cc

result-found : (text : List ℕ) (r : LexResult) (tree : ScriptTree) → lexed text ≡ r → by_tokens text r ≡ Ok tree → IsScriptOf text tree
result-found text (Ok tokens) tree l e = tokens-found text tokens (script most (start (lexemes_of text tokens))) tree l refl e
result-found text (Err fault) tree l e = cc

-- What is parsed is a script of the text.
pub parsed-found : (text : List ℕ) (tree : ScriptTree) → parsed text ≡ Ok tree → IsScriptOf text tree
unfolding parsed
parsed-found text tree e = result-found text (lexed text) tree refl e

-- A script of the text is parsed.
pub parsed-reads : (text : List ℕ) (tree : ScriptTree) → IsScriptOf text tree → parsed text ≡ Ok tree
unfolding parsed
parsed-reads text tree is =
    let l : lexed text ≡ Ok is.tokens = (reads-once text (Ok is.tokens)).0 is.lexed in
    let s = script-reads most (lexemes_of text is.tokens) tree is.script in
    ap (by_tokens text) l ∙ ap (ended (length text) is.tokens) s.1

-- A fault of the text is answered, and nothing else is called one.
pub parsed-fault : (text : List ℕ) (fault : LexFault) → Reads 0 text (Err fault) → parsed text ≡ Err (answer.Lex fault)
unfolding parsed
parsed-fault text fault r = ap (by_tokens text) ((reads-once text (Err fault)).0 r)

no-fault : (text : List ℕ) (tokens : List Token) (o : Parsed ScriptTree) (fault : LexFault) → ended (length text) tokens o ≡ Err (answer.Lex fault) → ⊥
no-fault text tokens (Ok read) fault e = cc
no-fault text tokens (Err (stop.Expected left)) fault e = cc
no-fault text tokens (Err (stop.Limit left which)) fault e = cc
no-fault text tokens (Err stop.NoMemory) fault e = cc

result-fault : (text : List ℕ) (r : LexResult) (fault : LexFault) → lexed text ≡ r → by_tokens text r ≡ Err (answer.Lex fault) → Reads 0 text (Err fault)
result-fault text (Ok tokens) fault l e = absurd (no-fault text tokens (script most (start (lexemes_of text tokens))) fault e)
result-fault text (Err found) fault l e = let same : found ≡ fault = cc in (reads-once text (Err fault)).1 (l ∙ ap Err same)

pub fault-parsed : (text : List ℕ) (fault : LexFault) → parsed text ≡ Err (answer.Lex fault) → Reads 0 text (Err fault)
unfolding parsed
fault-parsed text fault e = result-fault text (lexed text) fault refl e

-- ---- the clauses of the public call

pub accepted-by : (text : List ℕ) (r : Result Script ParseErr) → Gives r (parsed text) → IfOk r (λ s. IsScriptOf text (script_tree s))
accepted-by text (Ok s) g = parsed-found text (script_tree s) g
accepted-by text (Err e) g = tt

pub one-by : (text : List ℕ) (r : Result Script ParseErr) → Gives r (parsed text) → IfOk r (λ s. (other : ScriptTree) → IsScriptOf text other → other ≡ script_tree s)
one-by text (Ok s) g = λ other is. same-tree other (script_tree s) (sym (parsed-reads text other is) ∙ g)
one-by text (Err e) g = tt

refused-not : (text : List ℕ) (e : ParseErr) (tree : ScriptTree) → e ≢ answer.NoMemory → (e ≢ answer.NoMemory → parsed text ≡ Err e) → IsScriptOf text tree → ⊥
refused-not text e tree n g is = let p : parsed text ≡ Ok tree = parsed-reads text tree is in let q : parsed text ≡ Err e = g n in cc

pub complete-by : (text : List ℕ) (r : Result Script ParseErr) → Gives r (parsed text) → (tree : ScriptTree) → IsScriptOf text tree → IfErr r (λ e. e ≡ answer.NoMemory)
complete-by text (Ok s) g tree is = tt
complete-by text (Err (answer.Lex f)) g tree is = absurd (refused-not text (answer.Lex f) tree (λ h. cc) g is)
complete-by text (Err (answer.Expected place)) g tree is = absurd (refused-not text (answer.Expected place) tree (λ h. cc) g is)
complete-by text (Err (answer.Limit place which)) g tree is = absurd (refused-not text (answer.Limit place which) tree (λ h. cc) g is)
complete-by text (Err answer.NoMemory) g tree is = refl

pub lexical-by : (text : List ℕ) (r : Result Script ParseErr) → Gives r (parsed text) → (fault : LexFault) → IsErrOf r (answer.Lex fault) → Reads 0 text (Err fault)
lexical-by text (Ok s) g fault e = cc
lexical-by text (Err err) g fault e =
    let same : err ≡ answer.Lex fault = cc in
    let kept : answer.Lex fault ≢ answer.NoMemory → parsed text ≡ Err (answer.Lex fault) = subst (λ (m : ParseErr). m ≢ answer.NoMemory → parsed text ≡ Err m) same g in
    fault-parsed text fault (kept (λ h. cc))

pub first-by : (text : List ℕ) (r : Result Script ParseErr) → Gives r (parsed text) → (fault : LexFault) → Reads 0 text (Err fault) → Gives r (Err (answer.Lex fault))
first-by text r g fault f = subst (λ (o : Result ScriptTree ParseErr). Gives r o) (parsed-fault text fault f) g

pub text-lawful : (text : List ℕ) (tree : ScriptTree) → IsScriptOf text tree → IsLawful tree
text-lawful text tree is = script-lawful (lexemes_of text is.tokens) tree (lexemes-suit text is.tokens (reads-sound 0 text (Ok is.tokens) is.lexed [] refl)) is.script

pub lawful-by : (text : List ℕ) (r : Result Script ParseErr) → Gives r (parsed text) → IfOk r (λ s. IsLawful (script_tree s))
lawful-by text (Ok s) g = text-lawful text (script_tree s) (parsed-found text (script_tree s) g)
lawful-by text (Err e) g = tt
