-- The words that stay are all but the first.
use Rattle.std.proofs.Common.{[], ◌∷◌, get_or, sym, ap, ◌∙◌, rules}
use Rattle.std.proofs.lemmas.List.{drop_more, take_rest}
use Rattle.replay.proofs.words.Words.next.Goals as goal

pub returns : goal.returns
returns c =
    record {
      count = search rules;
      word =
          drop_more c.args.self.now.rest.now 0 (record { ref_ptr = (0, 0); now = [] }) (search rules) ∙
          ap
          (λ t. get_or c.args.self.now.rest.now 0 (record { ref_ptr = (0, 0); now = [] }) ∷ t)
          (sym (take_rest c.args.self.now.rest.now 1));
    }
