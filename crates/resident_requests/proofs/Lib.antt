mod http_requests
mod http_routes
mod json
