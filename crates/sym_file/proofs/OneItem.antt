-- Lists of one item, which are read as the item alone.
use Rattle.std.proofs.Common.{◌≡◌, ◌∙◌, ℕ, List, [], ◌∷◌, Option, Some, None, refl, ap}
use Rattle.sym_check.specs.Plan.ScriptPlans.{ScriptPlan}
use Rattle.sym_path.specs.declared.part.Part.{Part}
use Rattle.sym_path.specs.declared.part.Part.TheVariants as part
use Rattle.sym_path.specs.declared.path.Path.{Path}
use Rattle.sym_pred.specs.Facts.{FactMap}
use Rattle.sym_pred.specs.declared.literal.Literal.{Literal}
use Rattle.sym_run.specs.Chained.{Chained}
use Rattle.sym_run.specs.Chains.{chain_of, closed_chain}
use Rattle.sym_file.specs.Making.{facts_of}
use Rattle.sym_file.specs.Reading.{Fails, Read, ◌>>=◌, apart, chain_in, facts_in, literal_at, many, segment_at}
use Rattle.sym_file.specs.declared.saved_err.SavedErr.{SavedErr}
use Rattle.sym_file.specs.declared.saved_err.SavedErr.TheVariants as error

module _ {A : Type 0} (item : List ℕ → Read A) (bytes : List ℕ) where
  abbrev alone : A × List ℕ → Read (List A)
  alone x = Some (x.0 ∷ [], x.1)

  one_item : many item 1 bytes ≡ (item bytes >>= alone)
  unfolding many
  one_item = refl

  item_fails : {B : Type 0} (more : List A × List ℕ → Option B) (e : SavedErr) → Fails e (item bytes) → Fails e (many item 1 bytes >>= more)
  item_fails more error.OtherScript h = h
  item_fails more error.NoMemory h = tt
  item_fails more error.Malformed h = ap (λ (xs : Read (List A)). xs >>= more) (one_item ∙ ap (λ (x : Read A). x >>= alone) h)

  item_read : {B : Type 0} (more : List A × List ℕ → Option B) (x : A) (rest : List ℕ) → item bytes ≡ Some (x, rest) → (many item 1 bytes >>= more) ≡ more (x ∷ [], rest)
  item_read more x rest h = ap (λ (xs : Read (List A)). xs >>= more) (one_item ∙ ap (λ (y : Read A). y >>= alone) h)

module _ (p : ScriptPlan) (bytes : List ℕ) where
  abbrev facts_with : List Literal × List ℕ → Read Part
  facts_with ls = facts_of ls.0 >>= λ known. Some (part.Facts known, ls.1)

  pub fact_fails : (parts : ℕ) (e : SavedErr) → Fails e (apart (literal_at p parts) bytes) → Fails e (facts_in p parts 1 bytes)
  fact_fails parts e h = item_fails (apart (literal_at p parts)) bytes facts_with e h

  pub fact_read : (parts : ℕ) (l : Literal) (rest : List ℕ) (f : FactMap) → apart (literal_at p parts) bytes ≡ Some (l, rest) → facts_of (l ∷ []) ≡ Some f → facts_in p parts 1 bytes ≡ Some (part.Facts f, rest)
  fact_read parts l rest f h is =
      item_read (apart (literal_at p parts)) bytes facts_with l rest h
      ∙ ap (λ (known : Option FactMap). known >>= λ g. Some (part.Facts g, rest)) is

  abbrev chain_with : List (List Path) × List ℕ → Read Chained
  chain_with segments = chain_of segments.0 >>= λ chain. Some (chain, segments.1)

  pub segment_fails : (e : SavedErr) → Fails e (segment_at p bytes) → Fails e (chain_in p 1 bytes)
  segment_fails e h = item_fails (segment_at p) bytes chain_with e h

  pub segment_read : (segment : List Path) (rest : List ℕ) → segment_at p bytes ≡ Some (segment, rest) → chain_in p 1 bytes ≡ Some (closed_chain (segment ∷ []), rest)
  segment_read segment rest h = item_read (segment_at p) bytes chain_with segment rest h
