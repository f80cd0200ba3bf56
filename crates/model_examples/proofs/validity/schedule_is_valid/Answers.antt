use Rattle.model_examples.proofs.Words.{◌≡◌, ◌<◌, [], ◌∷◌, false, true, None, Some, All, refl, sym, subst, ◌∙◌, arith, lit≤, lit<, ◌+◌, len-empty, Override, connection_cmp, Train, is_before, Call, Event, change, wait, events, transfer, network, opts, start, t1_at_b, call, at, clock, stop_a, stop_c, stop_d}
use Rattle.std.proofs.Common.{◌≢◌}
use Rattle.std.proofs.Common.{◌^◌}
use Rattle.std.proofs.lemmas.List.Elements.{All-from_recursion}
use Rattle.delay_model.specs.Valid.{IsForward, IsTrain, IsSmall}
use Rattle.model_examples.specs.TwoTrains.{t1, t2, t2_at_b}
use Rattle.model_examples.proofs.Compute.{no_overrides, none, by, edges_by, edges-are}
use Rattle.model_examples.proofs.validity.schedule_is_valid.Goals as goal

first : IsTrain t1
first =
    record {
      labels = (All-from_recursion (λ (x : Call). 0 ≢ x.label) (t1_at_b ∷ call 2 stop_c (at (clock 9 0 0) true) (at (clock 9 0 0) false) ∷ []) ((λ e. omega arith), ((λ e. omega arith), tt)), (All-from_recursion (λ (x : Call). 1 ≢ x.label) (call 2 stop_c (at (clock 9 0 0) true) (at (clock 9 0 0) false) ∷ []) ((λ e. omega arith), tt), (All-from_recursion (λ (x : Call). 2 ≢ x.label) [] tt, tt)));
      used = All-from_recursion (λ (x : Call). x.label < 3) (call 0 stop_a (at (clock 8 0 0) false) (at (clock 8 0 0) true) ∷ t1_at_b ∷ call 2 stop_c (at (clock 9 0 0) true) (at (clock 9 0 0) false) ∷ []) (lit< tt, (lit< tt, (lit< tt, tt)));
      run = (refl, (refl, (refl, refl)));
      reports = λ number. (tt, (tt, (tt, (tt, (tt, (tt, tt))))));
    }

second : IsTrain t2
second =
    record {
      labels = (All-from_recursion (λ (x : Call). 0 ≢ x.label) (call 1 stop_d (at (clock 9 10 0) true) (at (clock 9 10 0) false) ∷ []) ((λ e. omega arith), tt), (All-from_recursion (λ (x : Call). 1 ≢ x.label) [] tt, tt));
      used = All-from_recursion (λ (x : Call). x.label < 2) (t2_at_b ∷ call 1 stop_d (at (clock 9 10 0) true) (at (clock 9 10 0) false) ∷ []) (lit< tt, (lit< tt, tt));
      run = (refl, (refl, refl));
      reports = λ number. (tt, (tt, (tt, (tt, tt))));
    }

pub returns-clause-valid : goal.returns-clause-valid
unfolding transfer change wait events is_before
returns-clause-valid c =
    record {
      options = record { slack = lit≤ tt; stop = lit≤ tt; change_least = lit≤ tt; change = lit≤ tt; window = lit≤ tt; spare_trains = lit≤ tt; spare_calls = lit≤ tt; overrides = lit≤ tt };
      forward = subst (λ es. All IsForward es) (sym (edges-are (network opts) (start opts) no_overrides)) (All-from_recursion IsForward (edges_by (network opts) (by none) (start opts)) (record { later = refl; room = lit≤ tt }, (record { later = refl; room = lit≤ tt }, (record { later = refl; room = lit≤ tt }, (record { later = refl; room = lit≤ tt }, (record { later = refl; room = lit≤ tt }, tt))))));
      trains = All-from_recursion IsTrain (t1 ∷ t2 ∷ []) (first, (second, tt));
      unreported = All-from_recursion (λ (v : Event). v.live ≡ false → v.report ≡ None) (events (start opts)) ((λ dead. refl), ((λ dead. refl), ((λ dead. refl), ((λ dead. refl), ((λ dead. refl), ((λ dead. refl), ((λ dead. refl), ((λ dead. refl), ((λ dead. refl), ((λ dead. refl), tt))))))))));
      connections = λ p o e. let f : None ≡ Some o = sym (no_overrides.all p) ∙ e in absurd (cc);
      small = All-from_recursion IsSmall (events (start opts)) (record { scheduled = lit< tt; forecast = tt; report = tt }, (record { scheduled = lit< tt; forecast = tt; report = tt }, (record { scheduled = lit< tt; forecast = tt; report = tt }, (record { scheduled = lit< tt; forecast = tt; report = tt }, (record { scheduled = lit< tt; forecast = tt; report = tt }, (record { scheduled = lit< tt; forecast = tt; report = tt }, (record { scheduled = lit< tt; forecast = tt; report = tt }, (record { scheduled = lit< tt; forecast = tt; report = tt }, (record { scheduled = lit< tt; forecast = tt; report = tt }, (record { scheduled = lit< tt; forecast = tt; report = tt }, tt))))))))));
    }

pub returns-clause-room : goal.returns-clause-room
returns-clause-room c =
    record {
      trains = lit< tt;
      calls = All-from_recursion (λ (t : Train). t.next_label + 4000 < 2 ^ 32) (t1 ∷ t2 ∷ []) (lit< tt, (lit< tt, tt));
      spare = lit< tt;
      overrides = subst (λ n. n + 10000 < 2 ^ 32) (sym (len-empty connection_cmp Override)) (lit< tt);
    }
