-- With the separator that gives the text a header, writing it anew is what is put of the file.
use Rattle.std.proofs.Common.{inl}
use Rattle.std.proofs.lemmas.Result.{IfOk-weaker}
use Rattle.gtd_mend.specs.Answer.{Gives, marks_of}
use Rattle.gtd_mend.specs.Mended.{IsOfText, IsRewritten}
use Rattle.gtd_mend.proofs.MendFacts.{gives_weaker}
use Rattle.gtd_mend.proofs.mend.mend_text.Goals as goal

pub returns : goal.returns
returns c =
    let path = c.args.path.now in
    let text = c.args.text.now in
    let marks = marks_of c.args.mark in
    let separator = c.in-Some.separator in
    record {
      mended = λ bytes.
          IfOk-weaker c.rewrite.result (Gives bytes (IsRewritten path separator marks text))
          (Gives bytes (IsOfText path bytes marks text))
          (λ given is. gives_weaker bytes (IsRewritten path separator marks text) (IsOfText path bytes marks text) given
          (λ mended lines rewritten. inl (record {
            separator = separator;
            has_header = rw c.in-Some.is at c.in_ok-separator.ensures.value;
            rewritten = rewritten;
          })) is) (c.rewrite.ensures.rewritten bytes);
    }
