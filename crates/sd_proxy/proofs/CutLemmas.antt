-- The lines of a read of a stream, as a cutter gives them.
use Rattle.std.proofs.Common.{◌≡◌, ℕ, ◌+◌, cond, List, [], ◌∷◌, ◌++◌, append-nil, sym, subst, arith}
use Rattle.std.specs.Prelude.{count_by, flat_map}
use Rattle.std.proofs.lemmas.List.Concat.{flat_map-append}
use Rattle.std.proofs.lemmas.List.Sums.{sum_by-append}
use Rattle.sd_model_outside.specs.Outside.{Object}
use Rattle.sd_model_record.specs.Totals.{Total}
use Rattle.sd_model_settings.specs.Entries.{Node}
use Rattle.sd_model_stream.specs.Streams.{StreamLine}
use Rattle.sd_tcp.specs.Cutting.{Cutting, CutsOn}
use Rattle.sd_tcp.proofs.CutLemmas.{CutsOn-next, CutsOn-none}
use Rattle.sd_model_proxy.specs.Relays.{is_long, lines_of_cut}
use Rattle.sd_proxy.specs.Forwarding.{AreSent, Forwards, TakesLines}
use Rattle.sd_proxy.specs.Streaming.{SendsBytes, TakesBytes}
use Rattle.sd_proxy.specs.declared.waiting.Waiting.{Waiting}
use Rattle.sd_proxy.proofs.ForwardLemmas.{TakesLines-next, TakesLines-none, read_sent}

module _ (nodes : List Node) (up : ℕ) where
  pub TakesBytes-none : (cutter : Cutting) (waiting : List Waiting) (wires : List Object) (totals : List Total)
      → TakesBytes nodes up [] cutter cutter waiting waiting wires wires totals totals
  TakesBytes-none cutter waiting wires totals = record {
    cuts = [];
    cut = CutsOn-none cutter;
    takes = TakesLines-none nodes up waiting wires totals;
  }

  -- bytes behind bytes
  pub TakesBytes-next : (before behind : List ℕ) (c d e : Cutting) (a b w : List Waiting) (u v x : List Object) (p q r : List Total)
      → TakesBytes nodes up before c d a b u v p q → TakesBytes nodes up behind d e b w v x q r
      → TakesBytes nodes up (before ++ behind) c e a w u x p r
  TakesBytes-next before behind c d e a b w u v x p q r first second =
      let xs = first.cuts in
      let ys = second.cuts in
      record {
        cuts = xs ++ ys;
        cut = CutsOn-next xs ys before behind c d e first.cut second.cut;
        takes =
            subst (λ (t : List (List ℕ) × ℕ). TakesLines nodes up t.0 t.1 a w u x p r)
            (λ i. (sym (flat_map-append lines_of_cut xs ys) i, sym (sum_by-append (λ (l : StreamLine). cond (is_long l) 1 0) xs ys) i))
            (TakesLines-next nodes up (flat_map lines_of_cut xs) (flat_map lines_of_cut ys) (count_by is_long xs)
            (count_by is_long ys) a b w u v x p q r first.takes second.takes);
      }

  -- a line
  pub TakesBytes-one : (line : StreamLine) (bytes : List ℕ) (c d : Cutting) (a b : List Waiting) (u v : List Object) (p q : List Total)
      → CutsOn (line ∷ []) bytes c d → TakesLines nodes up (lines_of_cut line) (count_by is_long (line ∷ [])) a b u v p q
      → TakesBytes nodes up bytes c d a b u v p q
  TakesBytes-one line bytes c d a b u v p q cut takes = record {
    cuts = line ∷ [];
    cut = cut;
    takes = subst (λ (ls : List (List ℕ)). TakesLines nodes up ls (count_by is_long (line ∷ [])) a b u v p q)
        (sym (append-nil (lines_of_cut line))) takes;
  }

  -- bytes that end no line, or one that is ready then, and what became of that
  pub TakesBytes-push : (bytes : List ℕ) (c d e : Cutting) (a b : List Waiting) (u v : List Object) (p q : List Total)
      → CutsOn [] bytes c d → TakesBytes nodes up [] d e a b u v p q → TakesBytes nodes up bytes c e a b u v p q
  TakesBytes-push bytes c d e a b u v p q pushed ready = record {
    cuts = ready.cuts;
    cut = subst (λ (bs : List ℕ). CutsOn ready.cuts bs c e) (append-nil bytes) (CutsOn-next [] ready.cuts bytes [] c d e pushed ready.cut);
    takes = ready.takes;
  }

-- the lines that were taken were sent
pub bytes_sent : (most : ℕ) (nodes : List Node) (up : ℕ) (bytes : List ℕ) (c d : Cutting) (waiting : List Waiting)
    (first wires : List Object) (t t_now : List Total) (cuts : List StreamLine) → CutsOn cuts bytes c d
    → AreSent most nodes up 0 (0 + count_by is_long cuts) (flat_map lines_of_cut cuts) waiting first wires t t_now
    → SendsBytes most nodes up bytes c d first wires t t_now
bytes_sent most nodes up bytes c d waiting first wires t t_now cuts cut sent =
    let lines = flat_map lines_of_cut cuts in
    let long = count_by is_long cuts in
    let same : 0 + long ≡ long = omega arith in
    record {
      cuts = cuts;
      cut = cut;
      forwards = subst (λ (n : ℕ). Forwards most nodes 0 (record { lines = lines; long = n; up = up } ∷ []) first wires t t_now) same
          (read_sent most nodes up 0 (0 + long) lines waiting first wires t t_now sent);
    }
