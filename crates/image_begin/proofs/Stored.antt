-- Stores in a node's levels, and the bytes of a node that an Insert takes. Assumes nothing.
use mathlib.Core.Path.{◌≡◌, refl, sym, ◌∙◌, ap}
use mathlib.Core.List.{List, [], ◌∷◌, ◌++◌, append_assoc}
use Prim.Native.Nat.{ℕ, zero, suc, ◌+◌, ◌-◌, ◌≤◌}
use native.Mathlib.Omega.{arith}
use borrow.Rule.Slice.PartMut.{put_mid}
use lib.ListN.{length, set, replicate}
use Rattle.std.proofs.lemmas.List.{length-replicate}
use Rattle.record.specs.declared.nodes.Node.{Node}
use Rattle.laws.specs.Every.{set_below}
use Rattle.laws.proofs.Counting.{length_below}
use Rattle.record.specs.Nodes.{filled}
use Rattle.image.specs.Pieces.{node_image}
use Rattle.image.specs.Puts.{puts, puts_in, four}
use Rattle.image.proofs.Puts.{Below, puts_append}
use Rattle.image.proofs.Runs.{run, put_mid-puts, run_more}
use Rattle.image_parts.proofs.Pieces.{leveled, put_forward, put_lock}
use Rattle.image_begin.specs.Stores.{levels, unmarked, used, fixed, fills}

run_levels : (j l v : ℕ) → run j (replicate l v) ≡ levels j l v
run_levels j zero v = refl
run_levels j (suc k) v =
    sym (run_more j k v) ∙ ap (λ (r : List (ℕ × ℕ)). r ++ ((j + k, v) ∷ [])) (run_levels j k v)

-- levels that were written at once
pub levels_stored :
    (b ys : List ℕ) (o j l k v : ℕ) → ys ≡ replicate k v → k ≡ l → o + j + l ≤ length b →
    put_mid (o + j) (o + j + l - (o + j)) b ys ≡ puts b o (levels j l v)
levels_stored b ys o j l k v is long high =
    let e : o + j + length ys ≡ o + j + l = omega (arith, ap length is, length-replicate {A = ℕ} k v) in
    put_mid-puts b ys (o + j) (o + j + l) o j refl e high
    ∙ ap (puts b o)
    (ap (run j) (is ∙ ap (λ (i : ℕ). replicate i v) long) ∙ run_levels j l v)

pub levels_below : (w j l v : ℕ) (es : List (ℕ × ℕ)) → j + l ≤ w → Below w es →
    Below w (levels j l v ++ es)
levels_below w j zero v es h k = k
levels_below w j (suc l) v es h k =
    rw (append_assoc (levels j l v) ((j + l, v) ∷ []) es)
    (levels_below w j l v ((j + l, v) ∷ es) (omega arith) (omega arith, k))

put_forwards : (n : Node) (l v : ℕ) (es : List (ℕ × ℕ)) → l ≤ 8 → length n.forward ≡ 8 →
    puts_in (node_image n) (levels 0 l v ++ es)
    ≡ puts_in (node_image (leveled n (set_below n.forward l v) n.level_locks)) es
put_forwards n zero v es low long = refl
put_forwards n (suc l) v es low long =
    let m = leveled n (set_below n.forward l v) n.level_locks in
    let z : 0 + l ≡ l = omega arith in
    ap (puts_in (node_image n)) (append_assoc (levels 0 l v) ((0 + l, v) ∷ []) es)
    ∙ put_forwards n l v ((0 + l, v) ∷ es) (omega arith) long
    ∙ ap (λ (i : ℕ). puts_in (set (node_image m) i v) es) z
    ∙ put_forward m l v es (omega arith) (length_below n.forward l v ∙ long)

put_locks : (n : Node) (l v : ℕ) (es : List (ℕ × ℕ)) → l ≤ 8 → length n.level_locks ≡ 8 →
    puts_in (node_image n) (levels 8 l v ++ es)
    ≡ puts_in (node_image (leveled n n.forward (set_below n.level_locks l v))) es
put_locks n zero v es low long = refl
put_locks n (suc l) v es low long =
    ap (puts_in (node_image n)) (append_assoc (levels 8 l v) ((8 + l, v) ∷ []) es)
    ∙ put_locks n l v ((8 + l, v) ∷ es) (omega arith) long
    ∙ put_lock (leveled n n.forward (set_below n.level_locks l v)) l v es (omega arith)
    (length_below n.level_locks l v ∙ long)

put_fixed : (n : Node) (f g : List ℕ) (h t due item height : ℕ) →
    puts_in (node_image (leveled n f g)) (fixed h t due item height)
    ≡ node_image (filled (leveled n f g) 0 0 h t due item height)
unfolding node_image
put_fixed n f g h t due item height = refl

pub put_filled : (n : Node) (l tail h t due item height : ℕ) → l ≤ 8 → length n.forward ≡ 8 →
    length n.level_locks ≡ 8 →
    puts_in (node_image n) (fills l tail h t due item height)
    ≡ node_image (filled n l tail h t due item height)
put_filled n l tail h t due item height low long locks =
    put_forwards n l tail (levels 8 l 0 ++ fixed h t due item height) low long
    ∙ put_locks (leveled n (set_below n.forward l tail) n.level_locks) l 0
    (fixed h t due item height) low locks
    ∙ put_fixed n (set_below n.forward l tail) (set_below n.level_locks l 0) h t due item height

pub fixed_below : (h t due item height : ℕ) → Below 41 (fixed h t due item height)
fixed_below h t due item height = (
  omega arith,
  (
    omega arith,
    (
      omega arith,
      (
        omega arith,
        (
          omega arith,
          (
            omega arith,
            (
              omega arith,
              (
                omega arith,
                (
                  omega arith,
                  (
                    omega arith,
                    (
                      omega arith,
                      (
                        omega arith,
                        (
                          omega arith,
                          (
                            omega arith,
                            (
                              omega arith,
                              (
                                omega arith,
                                (
                                  omega arith,
                                  (
                                    omega arith,
                                    (
                                      omega arith,
                                      (
                                        omega arith,
                                        (
                                          omega arith,
                                          (
                                            omega arith,
                                            (omega arith, (omega arith, (omega arith, tt))),
                                          ),
                                        ),
                                      ),
                                    ),
                                  ),
                                ),
                              ),
                            ),
                          ),
                        ),
                      ),
                    ),
                  ),
                ),
              ),
            ),
          ),
        ),
      ),
    ),
  ),
)

pub fills_below : (l tail h t due item height : ℕ) → l ≤ 8 →
    Below 41 (fills l tail h t due item height)
fills_below l tail h t due item height low =
    levels_below 41 0 l tail (levels 8 l 0 ++ fixed h t due item height) (omega arith)
    (levels_below 41 8 l 0 (fixed h t due item height) (omega arith)
    (fixed_below h t due item height))

-- what the code's stores of a node come to
pub links_stored : (b c d : List ℕ) (o l tail : ℕ) → c ≡ puts b o (levels 0 l tail) → d
    ≡ puts c o (levels 8 l 0) → d ≡ puts b o (levels 0 l tail ++ levels 8 l 0)
links_stored b c d o l tail e f =
    f ∙ ap (λ (r : List ℕ). puts r o (levels 8 l 0)) e
    ∙ sym (puts_append b o (levels 0 l tail) (levels 8 l 0))

pub entry_stored : (b c d e : List ℕ) (o t due item : ℕ) → c ≡ puts b o (four 23 due) → d
    ≡ puts c o (four 27 t) → e ≡ puts d o (four 31 item) →
    e ≡ puts (puts (puts b o (four 23 due)) o (four 27 t)) o (four 31 item)
entry_stored b c d e o t due item x y z =
    z ∙ ap (λ (r : List ℕ). puts r o (four 31 item))
    (y ∙ ap (λ (r : List ℕ). puts r o (four 27 t)) x)

pub fill_stored : (b c d e f : List ℕ) (o l tail h t due item height : ℕ) →
    c ≡ puts b o (levels 0 l tail ++ levels 8 l 0) →
    d ≡ puts c o (unmarked h) →
    e ≡ puts (puts (puts d o (four 23 due)) o (four 27 t)) o (four 31 item) →
    f ≡ puts e o (used height) →
    f ≡ puts b o (fills l tail h t due item height)
fill_stored b c d e f o l tail h t due item height w x y z =
    let m = four 23 due ++ (four 27 t ++ four 31 item) in
    let y2 : e ≡ puts d o m = y in
    z ∙ ap (λ (r : List ℕ). puts r o (used height))
    (y2 ∙ ap (λ (r : List ℕ). puts r o m) (x ∙ ap (λ (r : List ℕ). puts r o (unmarked h)) w))
    ∙ sym (puts_append (puts (puts b o (levels 0 l tail ++ levels 8 l 0)) o (unmarked h)) o m
    (used height))
    ∙ sym (puts_append (puts b o (levels 0 l tail ++ levels 8 l 0)) o (unmarked h)
    (m ++ used height))
    ∙ sym (puts_append b o (levels 0 l tail ++ levels 8 l 0) (fixed h t due item height))
    ∙ ap (puts b o) (append_assoc (levels 0 l tail) (levels 8 l 0) (fixed h t due item height))
