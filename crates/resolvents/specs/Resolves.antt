-- The resolvent of two clauses as a test over lists of codes. Assumes nothing.
use Rattle.std.specs.Prelude.{Bool, not, ◌&&◌, ◌||◌, List, ℕ, eqb}
use Rattle.std.specs.List.{list_all as all, list_any as any}
use Rattle.rules.specs.Basics.{is_in}
use Rattle.rules.specs.Codes.{flip}

-- every code of the list but x passes the test
unfoldable pub all_but : (ℕ → Bool) → ℕ → List ℕ → Bool
all_but p x ys = all (λ y. eqb y x || p y) ys

-- what is left of the parents d and e, once x left d and its flip e
unfoldable pub leaves : List ℕ → List ℕ → ℕ → ℕ → Bool
leaves d e x y = is_in d y && not (eqb y x) || is_in e y && not (eqb y (flip x))

-- c is the resolvent of d and e on the code x of d: e holds its flip; what is left of d and of e is in c, and each code of c is such a one
unfoldable pub resolves_on : List ℕ → List ℕ → List ℕ → ℕ → Bool
resolves_on c d e x = is_in e (flip x) && all_but (is_in c) x d && all_but (is_in c) (flip x) e && all (leaves d e x) c

-- on some code of d
unfoldable pub resolves : List ℕ → List ℕ → List ℕ → Bool
resolves c d e = any (resolves_on c d e) d
