-- Each step of a queue of buffers keeps its rule.
use Rattle.std.proofs.Common.{◌≡◌, ◌≢◌, ℕ, suc, true, false, true≢false, List, [], ◌∷◌, ◌++◌, length, map, set, sym, refl, ap, ◌∙◌, subst, ⊎_elim, append_assoc, arith, length-append}
use mathlib.Core.Option.{some, some-ne-none}
use lib.ListN.{get_elem?}
use Rattle.crossbeam_queue.specs.Fifo.{Pushes, Pops, Forks, Merges, Learns}
use Rattle.crossbeam_queue.proofs.Lists.{at_set, at_snoc}
use Rattle.sd_outlet.specs.declared.buf.Buf.{Buf}
use Rattle.sd_outlet.specs.declared.pass_view.PassView.{PassView}
use Rattle.sd_outlet.specs.Buf.{text_of, size_of}
use Rattle.sd_outlet.proofs.ViewLists.{at_end, All, all_set}
use Rattle.sd_outlet.specs.Queue.{pass_view, EachHolds, Fits, InOrder, spent, puts_in, takes_out, put_behind, taken_before}

-- the texts of buffers with one more behind them
map-snoc : (bufs : List Buf) (b : Buf) → map text_of (bufs ++ b ∷ []) ≡ map text_of bufs ++ text_of b ∷ []
map-snoc [] b = refl
map-snoc (x ∷ xs) b = ap (λ l. text_of x ∷ l) (map-snoc xs b)

-- one buffer more of that size
holds-snoc : (size : ℕ) (bufs : List Buf) (b : Buf) → EachHolds size bufs → size_of b ≡ size → EachHolds size (bufs ++ b ∷ [])
holds-snoc size [] b h e = (e, tt)
holds-snoc size (x ∷ xs) b h e = (h.0, holds-snoc size xs b h.1 e)

-- no texts, no buffers
none_holds : (size : ℕ) (bufs : List Buf) → map text_of bufs ≡ [] → EachHolds size bufs
none_holds size [] e = tt
none_holds size (b ∷ bufs) e = absurd (let l : suc (length (map text_of bufs)) ≡ 0 = ap length e in omega arith)

-- a spent pass says nothing
no_role : (w r size : ℕ) (put taken : List (List ℕ)) (pass : ℕ) → Fits w r size put taken pass spent
no_role w r size put taken pass = ((λ p. absurd (true≢false (sym p))), λ p. absurd (true≢false (sym p)))

-- an empty queue with its first pass
pub begins : InOrder [] (pass_view true true 0 0 [] [] ∷ [])
begins = record {
  writer = 0;
  reader = 0;
  size = 0;
  put = [];
  taken = [];
  order = refl;
  sizes = tt;
  fits = all_set (Fits 0 0 0 [] []) (pass_view true true 0 0 [] [] ∷ []) 0 (pass_view true true 0 0 [] []) ((λ _. (refl, refl, refl)), λ _. (refl, refl, refl, omega arith))
      (λ j u other e. absurd (other (at_end [] _ u j (λ x. some-ne-none u (sym x)) e)));
}

-- a buffer is put in
pub puts : (n pass : ℕ) (v : PassView) (b : Buf) → v.puts ≡ true → size_of b ≡ v.size → Pushes InOrder n pass v b (puts_in v b)
puts n pass v b may sized bufs views _ h at =
    let w : PassView = pass_view v.puts v.takes v.size v.least (v.put ++ text_of b ∷ []) v.taken in
    let mine = h.fits pass v at in
    let put = h.put ++ text_of b ∷ [] in
    let longer : length put ≡ suc (length h.put) = length-append h.put (text_of b ∷ []) ∙ (omega arith) in (
      w,
      record {
        writer = h.writer;
        reader = h.reader;
        size = h.size;
        put = put;
        taken = h.taken;
        order = ap (λ l. l ++ text_of b ∷ []) h.order ∙ append_assoc h.taken (map text_of bufs) (text_of b ∷ []) ∙ ap (λ l. h.taken ++ l) (sym (map-snoc bufs b));
        sizes = holds-snoc h.size bufs b h.sizes (sized ∙ (mine.0 may).2);
        fits = all_set (Fits h.writer h.reader h.size put h.taken) views pass w
            ((λ _. ((mine.0 may).0, ap (λ l. l ++ text_of b ∷ []) (mine.0 may).1, (mine.0 may).2)), λ p. let m = mine.1 p in (m.0, m.1, m.2, omega (arith, m.3, longer)))
            (λ j u other e. ((λ p. absurd (other (((h.fits j u e).0 p).0 ∙ sym (mine.0 may).0))), λ p. let m = (h.fits j u e).1 p in (m.0, m.1, m.2, omega (arith, m.3, longer))));
      },
      refl,
    )

-- a buffer is taken out
pub takes : (pass : ℕ) (v : PassView) → v.takes ≡ true → Pops InOrder pass v (takes_out v)
takes pass v may b bufs views h at =
    let w : PassView = pass_view v.puts v.takes v.size v.least v.put (v.taken ++ text_of b ∷ []) in
    let mine = h.fits pass v at in
    let taken = h.taken ++ text_of b ∷ [] in (
      w,
      record {
        writer = h.writer;
        reader = h.reader;
        size = h.size;
        put = h.put;
        taken = taken;
        order = h.order ∙ sym (append_assoc h.taken (text_of b ∷ []) (map text_of bufs));
        sizes = h.sizes.1;
        fits = all_set (Fits h.writer h.reader h.size h.put taken) views pass w
            (mine.0, λ _. let m = mine.1 may in (m.0, ap (λ l. l ++ text_of b ∷ []) m.1, m.2, m.3))
            (λ j u other e. ((h.fits j u e).0, λ p. absurd (other (((h.fits j u e).1 p).0 ∙ sym (mine.1 may).0))));
      },
      (refl, h.sizes.0 ∙ sym (mine.1 may).2),
    )

-- the first pass of a new queue learns the size of its buffers
pub sets_size : (size pass : ℕ) (v : PassView) → v.puts ≡ true → v.takes ≡ true → v.put ≡ [] → v.taken ≡ [] → Forks InOrder pass v (pass_view true true size 0 v.put v.taken) spent
sets_size size pass v a b none_put none_taken bufs views h at =
    let l : PassView = pass_view true true size 0 v.put v.taken in
    let mine = h.fits pass v at in
    let Now : ℕ → PassView → Type 0 = Fits h.writer h.reader size h.put h.taken in
    let now : All Now (set views pass l) = all_set Now views pass l ((λ _. ((mine.0 a).0, (mine.0 a).1, refl)), λ _. ((mine.1 b).0, (mine.1 b).1, refl, omega arith))
    (λ j u other e. ((λ p. absurd (other (((h.fits j u e).0 p).0 ∙ sym (mine.0 a).0))), λ p. absurd (other (((h.fits j u e).1 p).0 ∙ sym (mine.1 b).0)))) in
    let held : map text_of bufs ≡ [] = ap (λ l. l ++ map text_of bufs) (sym none_taken ∙ (mine.1 b).1) ∙ (sym h.order ∙ (sym (mine.0 a).1 ∙ none_put)) in
    record {
      writer = h.writer;
      reader = h.reader;
      size = size;
      put = h.put;
      taken = h.taken;
      order = h.order;
      sizes = none_holds size bufs held;
      fits = λ j u e. ⊎_elim (λ x. now j u x) (λ (is : spent ≡ u). subst (Now j) is (no_role h.writer h.reader size h.put h.taken j)) (at_snoc (set views pass l) spent u j e);
    }

-- one pass puts from now on, and another takes
pub forks : (pass : ℕ) (v : PassView) → v.puts ≡ true → v.takes ≡ true → Forks InOrder pass v (pass_view true false v.size 0 v.put []) (pass_view false true v.size (length v.put) [] v.taken)
forks pass v a b bufs views h at =
    let l : PassView = pass_view true false v.size 0 v.put [] in
    let r : PassView = pass_view false true v.size (length v.put) [] v.taken in
    let mine = h.fits pass v at in
    let vs : List PassView = set views pass l in
    let Old : ℕ → PassView → Type 0 = λ j u. (u.puts ≡ true → (j ≡ h.writer) × (u.put ≡ h.put) × (u.size ≡ h.size)) × (u.takes ≢ true) in
    let old : All Old vs = all_set Old views pass l ((λ _. mine.0 a), λ p. true≢false (sym p)) (λ j u other e. ((h.fits j u e).0, λ p. other (((h.fits j u e).1 p).0 ∙ sym (mine.1 b).0))) in
    record {
      writer = h.writer;
      reader = length vs;
      size = h.size;
      put = h.put;
      taken = h.taken;
      order = h.order;
      sizes = h.sizes;
      fits = λ j u e. ⊎_elim (λ x. ((old j u x).0, λ p. absurd ((old j u x).1 p)))
          (λ (is : r ≡ u). (
            (λ p. absurd (true≢false (sym (ap (λ (y : PassView). y.puts) is ∙ p)))),
            λ p. (
              at_end vs r u j (λ x. (old j u x).1 p) e,
              ap (λ (y : PassView). y.taken) (sym is) ∙ (mine.1 b).1,
              ap (λ (y : PassView). y.size) (sym is) ∙ (mine.1 b).2,
              omega (arith, ap (λ (y : PassView). y.least) is, ap length (mine.0 a).1),
            ),
          )) (at_snoc vs r u j e);
    }

-- one pass does both again
pub merges : (pass : ℕ) (v : PassView) (other : ℕ) (u : PassView) → v.puts ≡ true → u.takes ≡ true → Merges InOrder pass v other u (pass_view true true v.size 0 v.put u.taken) spent
merges pass v other u a b bufs views h at two at' =
    let both : PassView = pass_view true true v.size 0 v.put u.taken in
    let mine = h.fits pass v at in
    let vs : List PassView = set views pass both in
    let was : get_elem? views other ≡ some u = ⊎_elim (λ x. absurd (two x.0)) (λ x. x.1) (at_set views pass other both u at') in
    let theirs = (h.fits other u was).1 b in
    let Now : ℕ → PassView → Type 0 = λ j y. j ≢ other → Fits h.writer pass h.size h.put h.taken j y in
    let now : All Now vs = all_set Now views pass both (λ _. ((λ _. mine.0 a), λ _. (refl, theirs.1, (mine.0 a).2, omega arith))) (λ j y _ e apart. ((h.fits j y e).0, λ p. absurd (apart (((h.fits j y e).1 p).0 ∙ sym theirs.0)))) in
    record {
      writer = h.writer;
      reader = pass;
      size = h.size;
      put = h.put;
      taken = h.taken;
      order = h.order;
      sizes = h.sizes;
      fits = all_set (Fits h.writer pass h.size h.put h.taken) vs other spent (no_role h.writer pass h.size h.put h.taken other) (λ j y apart e. now j y e apart);
    }

-- what a push learns of a full queue
pub learns_put : (pass : ℕ) (v : PassView) → v.puts ≡ true → Learns InOrder pass v (put_behind v)
learns_put pass v a bufs views h at = (h.taken, ((h.fits pass v at).0 a).1 ∙ h.order)

-- what a pop learns of an empty queue
pub learns_taken : (pass : ℕ) (v : PassView) → v.takes ≡ true → Learns InOrder pass v (taken_before v)
learns_taken pass v b bufs views h at =
    let mine = h.fits pass v at in
    let m = mine.1 b in
    (h.put, h.order ∙ ap (λ l. l ++ map text_of bufs) (sym m.1), m.3, λ a. (mine.0 a).1)
