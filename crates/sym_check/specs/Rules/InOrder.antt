-- Lists of declarations, each in the scope of those before it.
use Rattle.std.specs.Prelude.{ℕ, ◌+◌, List, [], ◌∷◌, Result, Ok}
use Rattle.sym_check.specs.Meaning.Arithmetic.{◌>>=◌, and_then}
use Rattle.sym_check.specs.declared.elaborate.error.CheckErr.{CheckErr}
use Rattle.sym_check.specs.Rules.Scopes.{Scope}

-- Each declaration, by its number, has its plan, and leads to the scope of the next one.
pub data Each {A B : Type 0} (One : Scope → ℕ → A → B → Scope → Type 0)
    : Scope → ℕ → List A → List B → Scope → Type 0 where
  none : (s : Scope) (n : ℕ) → Each One s n [] [] s
  one_more : (s m later : Scope) (n : ℕ) (a : A) (rest : List A) (b : B) (bs : List B)
      → One s n a b m
      → Each One m (n + 1) rest bs later
      → Each One s n (a ∷ rest) (b ∷ bs) later

-- One declaration breaks a rule, and those before it have their plans.
pub data FirstBroken {A B : Type 0} (One : Scope → ℕ → A → B → Scope → Type 0)
    (Broken : Scope → ℕ → A → CheckErr → Type 0)
    : Scope → ℕ → List A → CheckErr → Type 0 where
  here : (s : Scope) (n : ℕ) (a : A) (rest : List A) (f : CheckErr)
      → Broken s n a f
      → FirstBroken One Broken s n (a ∷ rest) f
  further : (s m : Scope) (n : ℕ) (a : A) (rest : List A) (b : B) (f : CheckErr)
      → One s n a b m
      → FirstBroken One Broken m (n + 1) rest f
      → FirstBroken One Broken s n (a ∷ rest) f

-- The plan of one declaration, and the scope after it.
pub record Planned (B : Type 0) : Type 0 where
  pub plan : B
  pub scope : Scope

-- The plans in order, or the first broken rule.
abbrev pub each : {A B : Type 0} → (Scope → ℕ → A → Result (Planned B) CheckErr) → Scope → ℕ
    → List A → Result (Planned (List B)) CheckErr
each one s n [] = Ok (record { plan = []; scope = s })
each one s n (a ∷ rest) = do
  b ← one s n a
  bs ← each one b.scope (n + 1) rest
  Ok (record { plan = b.plan ∷ bs.plan; scope = bs.scope })
