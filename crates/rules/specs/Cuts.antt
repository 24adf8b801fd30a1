-- An edge past any number of frames at once: at most one of them cuts it, then its outcomes are put under the rest.
--
-- cut term a fs: a break is cut at the first loop of fs, an exception at the first try that catches it: where the cut
-- sends the edge, and the frames after that one. Nothing else is cut.
-- outcome_under term fs p: where an outcome p under the frames fs is. What is done passes tries, and goes on at the first
-- seq or loop.
-- past term fs e: the edge e past the frames fs.
use Rattle.std.specs.Prelude.{ℕ, cond, List, [], ◌∷◌, ◌++◌, Some, None, Option, ◌==◌}
use Rattle.std.specs.Option.{option_map}
use Rattle.words.specs.Edges.{Edge, renamed_by}
use Rattle.words.specs.Words.{breaking}
use Rattle.rules.specs.Passing.{silent, handler_of}
use Rattle.rules.specs.Places.{Place, done, running, start}
use Rattle.rules.specs.Terms.{Term, Role, Onward, Again, Catching, Unframed, role_of}

pub record Cut : Type 0 where
  pub goes : Place
  pub rest : List ℕ

abbrev pub cut_as : Role → ℕ → Option Place
cut_as (Onward b) a = None
cut_as Again a = cond (a == breaking) (Some done) None
cut_as (Catching cs) a = option_map start (handler_of cs a)
cut_as Unframed a = None

abbrev pub cut_or : Option Place → List ℕ → Option Cut → Option Cut
cut_or None fs later = later
cut_or (Some p) fs later = Some (record { goes = p; rest = fs })

abbrev pub cut : (ℕ → Term) → ℕ → List ℕ → Option Cut
cut term a [] = None
cut term a (f ∷ fs) = cut_or (cut_as (role_of (term f)) a) fs (cut term a fs)

-- what done becomes under a frame f
abbrev pub done_as : Role → ℕ → Place
done_as (Onward b) f = start b
done_as Again f = start f
done_as (Catching cs) f = done
done_as Unframed f = done

abbrev pub outcome_by : List ℕ → Place → Place → Place
outcome_by fs when_done done = when_done
outcome_by fs when_done (running head frames) = running head (frames ++ fs)

abbrev pub done_under : (ℕ → Term) → List ℕ → Place
done_under term [] = done
done_under term (f ∷ fs) = outcome_by fs (done_under term fs) (done_as (role_of (term f)) f)

abbrev pub outcome_under : (ℕ → Term) → List ℕ → Place → Place
outcome_under term fs p = outcome_by fs (done_under term fs) p

abbrev pub past_as : Option Cut → (ℕ → Term) → List ℕ → Edge Place → Edge Place
past_as None term fs e = renamed_by (outcome_under term fs) e
past_as (Some c) term fs e = silent e (outcome_under term c.rest c.goes)

abbrev pub past : (ℕ → Term) → List ℕ → Edge Place → Edge Place
past term fs e = past_as (cut term e.action fs) term fs e
