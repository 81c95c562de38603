use Rattle.std.proofs.Common.{◌∙◌, ap, option_copied, option_map}
use Rattle.http.specs.Request.{head_of}
use Rattle.http_uri.specs.Uri.{uri_query}
use Rattle.kb_pages.specs.Answer.{page_of}
use Rattle.kb_pages.specs.Route.{named_in}
use Rattle.kb_pages.proofs.Answered.{answered}
use Rattle.kb_pages.proofs.site.SiteService.call.Goals as goal

pub returns-clause-ok : goal.returns-clause-ok
returns-clause-ok g c =
    answered c.args.self.now (g.S.Source.told c.args.self.now.source.now) (named_in (option_copied c.query-query.result))
    (named_in (uri_query (head_of c.args.request.now).uri)) c.page_of-page.result
    (page_of (option_map (λ f. f.items) c.args.self.now.asked.now) c.args.request.now) c.fill_page.new.response c.fill_page.result
    (ap named_in (c.query-query.ensures.value ∙ ap uri_query c.uri.ensures)) c.page_of-page.ensures c.fill_page.ensures
