-- Numbers in little-endian bytes, for any number of bytes (VIRTIO 1.1, 1.4: fields are little-endian), and bytes put into the
-- lent ones and taken from them.
use Rattle.std.specs.Prelude.{ℕ, zero, suc, ◌+◌, ◌*◌, ◌/◌, ◌%◌, List, [], ◌∷◌, cond, leb, length, get_or, take, drop, replicate}
use Rattle.std.proofs.lemmas.List.Edits.{sets}
use Rattle.base.specs.Answer.{Outcome, outcome, done, refused}

-- the k low bytes of n, the lowest first
unfoldable pub bytes_of : ℕ → ℕ → List ℕ
bytes_of zero n = []
bytes_of (suc k) n = n % 256 ∷ bytes_of k (n / 256)

-- the number that the k bytes from place i make, the lowest first
unfoldable pub word_at : List ℕ → ℕ → ℕ → ℕ
word_at bs i zero = 0
word_at bs i (suc k) = get_or bs i 0 + 256 * word_at bs (suc i) k

-- bytes put into the lent bytes from place i; where they are not whole in them, 8 (BadLent) and nothing changes
unfoldable pub put_of : List ℕ → ℕ → List ℕ → Outcome
put_of l i bs =
    cond (leb (i + length bs) (length l))
    (outcome (done []) (sets l i bs))
    (outcome (refused 8) l)

-- the n bytes from place i; zeros where they are not whole in the lent bytes
unfoldable pub get_of : List ℕ → ℕ → ℕ → List ℕ
get_of l i n = cond (leb (i + n) (length l)) (take n (drop i l)) (replicate n 0)
